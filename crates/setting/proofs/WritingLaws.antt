-- Kinds 2 and 3: a call on the front of the buffer is a call on the stripe, and leaves the rest.
-- To cite: write_keeps, store_keeps, stores_front.
use mathlib.Core.Path.{◌≡◌, sym, ap, ◌∙◌}
use mathlib.Core.List.{List, ◌++◌}
use Prim.Native.Nat.{ℕ, ◌-◌}
use native.Mathlib.Omega.{arith}
use lib.ListN.{length, get_or, take, drop, length-drop}
use lib.Seq.{take_all}
use Rattle.shape.specs.declared.Shape.{Shape}
use Rattle.answer.specs.Answers.{Answer, number}
use Rattle.writing.specs.Write.{SmallWrite}
use Rattle.storing.specs.Store.{RawStore}
use Rattle.std.specs.Prelude.{Some}
use Rattle.kinds.specs.declared.Deed.{Deed}
use Rattle.kinds.specs.Kinds.{Held, deed, With, Stores}
use Rattle.kinds.specs.Holding.{Front}
use Rattle.kinds.proofs.FrontLaws.{outcome_long, front_take, front_stripe, front_inside}
use Rattle.kinds.proofs.HoldingLaws.{with_some}

-- both calls leave a stripe as long as it was
abbrev pub Calls : Type 1
Calls = Shape → List ℕ → ℕ → ℕ → List ℕ → Answer → List ℕ → Type 0

abbrev pub Keeps : Calls → Type 0
Keeps Call = (sh : Shape) (s : List ℕ) (column row : ℕ) (x : List ℕ) (a : Answer) (s' : List ℕ) → Call sh s column row x a s' → length s' ≡ length s

pub write_keeps : Keeps SmallWrite
write_keeps sh s column row x a s' call = outcome_long (λ w. w.long) call

pub store_keeps : Keeps RawStore
store_keeps sh s column row x a s' call = outcome_long (λ w. w.long) call

module _ (Call : Calls) (keeps : Keeps Call) (h : Held) (sh : Shape) (holds : h ≡ Some sh) (p s : List ℕ) (end : ℕ) (f : Front sh (length s) end) where
  -- the symbol as the code takes it: all that follows two bytes
  symbol : take (length p - 2) (drop 2 p) ≡ drop 2 p
  symbol = take_all (length p - 2) (drop 2 p) (omega (arith, length-drop 2 p))

  pub stores_front : (ys : List ℕ) (column row : ℕ) (a : Answer) (d : Deed) → column ≡ get_or p 0 0 → row ≡ get_or p 1 0
      → Call sh (take end s) column row (take (length p - 2) (drop 2 p)) a ys → d ≡ deed h (number a) 0 0
      → With h (λ sh. Stores Call sh p s d (ys ++ drop end s))
  stores_front ys column row a d ec er call ed =
      let same = keeps sh (take end s) column row _ a ys call in
      with_some (λ sh. Stores Call sh p s d (ys ++ drop end s)) h sh holds (
        a,
        rw (front_stripe sh s end f ys same) (rw (sym (front_take sh s end f)) (rw (sym ec, sym er, sym symbol) call)),
        front_inside sh s end f ys same,
        ed ∙ ap (λ (k : Held). deed k (number a) 0 0) holds,
      )
