-- THE HEAD OF A CALL (the page on call files, the table of the parts). Definitions only.
use Rattle.std.specs.Prelude.{◌≡◌, ◌≢◌, List, ℕ, ◌≤◌, get_or, Option, Some, None}
use Rattle.shape.specs.Good.{shape}
use Rattle.v2calls.specs.declared.call.Call.{Call}
use Rattle.v2calls.specs.declared.heading.Head.{Head}
use Rattle.v2calls.specs.Calls.{call_number}
use Rattle.v2calls.specs.Little.{four, eight}

-- the head of a call that these bytes spell: "m, n, w 8 each", "a, b, c, d 8 each", "length 1, length 2 4 each"
unfoldable pub spelled : Call → List ℕ → Head
spelled call xs =
    record {
      call = call;
      shape = shape (eight xs 1) (eight xs 9) (eight xs 17);
      a = eight xs 25;
      b = eight xs 33;
      c = eight xs 41;
      d = eight xs 49;
      first = four xs 57;
      second = four xs 61;
    }

-- "call 1": the call is that of the first byte's number; there is no head where this is an "unknown call"
abbrev pub HeadOf : List ℕ → Option Head → Type 0
HeadOf xs (Some h) = (call_number h.call ≡ get_or xs 0 0) × (h ≡ spelled h.call xs)
HeadOf xs None = (call : Call) → call_number call ≢ get_or xs 0 0

-- no "count of losses over 2" of a call that has one, no "length over its limit"
pub record Admitted (h : Head) : Type 0 where
  pub losses : 6 ≤ call_number h.call → call_number h.call ≤ 8 → h.a ≤ 2
  pub first_fits : h.first ≤ 66000
  pub second_fits : h.second ≤ 20000
