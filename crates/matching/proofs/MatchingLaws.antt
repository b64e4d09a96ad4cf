-- Laws of bytes compared: a block that is the same, one part after another, and a search that goes on or ends.
-- To cite: level_then, found_some, found_none, found_on, found_end; same_level, level_same.
use mathlib.Core.Path.{◌≡◌, sym, ap, ◌∙◌}
use mathlib.Core.List.{List}
use Prim.Native.Nat.{ℕ, ◌+◌, ◌-◌, ◌≤◌, ◌<◌}
use native.Mathlib.Omega.{arith}
use native.Mathlib.Decide.{dec_lt}
use lib.ListN.{get_or}
use Rattle.std.specs.Prelude.{Some, None}
use Rattle.looking.specs.Looking.{Same}
use Rattle.block.specs.Block.{Block}
use Rattle.matching.specs.Matching.{Level, Found, bytes_at}

module _ (F G : ℕ → ℕ) where
  -- one part after another
  pub level_then : (lo from hi : ℕ) → Level F G lo from → Level F G from hi → Level F G lo hi
  level_then lo from hi before next t a b = on (dec_lt t from)
    where
      on : Dec (t < from) → F t ≡ G t
      on (yes h) = before t a h
      on (no h) = next t (omega arith) b

  -- a part that fits, of the whole
  pub found_some : (from len w : ℕ) → 1 ≤ len → from + len ≤ w → Level F G from (from + len) → Found F G from w (Some len)
  found_some from len w lo hi h = (lo, hi, h)

  pub found_none : (from len w : ℕ) → from + len ≤ w → ¬ Level F G from (from + len) → Found F G from w None
  found_none from len w hi not h = not (λ t a b. h t a (omega arith))

  -- a search from `start` that has come to `from`: it goes on, or ends
  module _ (start from w : ℕ) where
    pub found_on : (some : ℕ) → Found F G from w (Some some) → Level F G start from → (1 ≤ some) × (from + some ≤ w) × Level F G start (from + some)
    found_on some found before = (found.0, found.1, level_then start from (from + some) before found.2)

    pub found_end : Found F G from w None → start ≤ from → ¬ Level F G start w
    found_end found h all = found (λ t a b. all t (omega arith) b)

  -- a block of F beside a slice that has G's bytes
  module _ (u : List ℕ) (at : ℕ) (is : (t : ℕ) → bytes_at u at t ≡ G t) (from len : ℕ) {long : ℕ} (acc : List ℕ) (b : Block (λ t. F (from + t)) len long acc) where
    pub same_level : Same acc u (at + from) len → Level F G from (from + len)
    same_level h t lo hi =
        let r = t - from in
        let e : from + r ≡ t = omega arith in
        let f : at + from + r ≡ at + t = omega arith in
        ap F (sym e) ∙ sym (b.at r (omega arith)) ∙ h r (omega arith) ∙ ap (λ (i : ℕ). get_or u i 0) f ∙ is t

    pub level_same : Level F G from (from + len) → Same acc u (at + from) len
    level_same h t l =
        let f : at + (from + t) ≡ at + from + t = omega arith in
        b.at t l ∙ h (from + t) (omega arith) (omega arith) ∙ sym (is (from + t)) ∙ ap (λ (i : ℕ). get_or u i 0) f
