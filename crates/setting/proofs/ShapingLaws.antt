-- Kind 1: a shape that is refused, and one that is taken.
-- To cite: named_is, begun_err, shapes_refused, shapes_begun.
use mathlib.Core.Path.{◌≡◌, refl, sym, ap, ◌∙◌}
use mathlib.Core.Logic.{◌≢◌, inl, inr}
use mathlib.Core.List.{List, ◌++◌}
use Prim.Native.Nat.{ℕ, ◌<◌}
use lib.ListN.{length, get_or, take, drop}
use lib.Seq.{get_or-take}
use Rattle.shape.specs.declared.Shape.{Shape}
use Rattle.shape.specs.Good.{Good, size, shape}
use Rattle.answer.specs.Answers.{number, First}
use Rattle.shape.specs.Refusals.{shape_table}
use Rattle.shape.proofs.GoodLaws.{shape_done}
use Rattle.records.specs.Record.{two_bytes}
use Rattle.std.specs.Prelude.{Some, Result, Err}
use Rattle.answer.specs.declared.Refusal.{Refusal}
use Rattle.kinds.specs.declared.Deed.{Deed}
use Rattle.kinds.specs.Kinds.{Held, deed, begun_of, named_shape, Shapes}
use Rattle.kinds.specs.Holding.{Front}
use Rattle.kinds.proofs.ToldLaws.{Handed}
use Rattle.kinds.proofs.FrontLaws.{front_stripe, front_inside}

-- the shape that the code makes of the payload
pub named_is : (p : List ℕ) (m n w : ℕ) → m ≡ get_or p 0 0 → n ≡ get_or p 1 0 → w ≡ two_bytes p 2 → shape m n w ≡ named_shape p
unfolding named_shape
named_is p m n w em en ew = rw (em, en, ew) refl

-- the refusal that `?` hands on
pub begun_err : (h : Held) (r : Result Shape Refusal) (e : Refusal) → Handed r e → begun_of h r ≡ deed h (number {A = Unit {0}} (Err e)) 0 0
unfolding number
begun_err h r e (x, is, same) = rw (is, same) refl

module _ (h : Held) (p s : List ℕ) (sh : Shape) (is : sh ≡ named_shape p) (d : Deed) where
  pub shapes_refused : (k : ℕ) → First (shape_table sh) k → k ≢ 0 → d ≡ deed h k 0 0 → Shapes h p s d s
  shapes_refused k first ne ed = (k, rw (sym is) first, inr (ne, ed, refl))

  module _ (end : ℕ) (f : Front sh (length s) end) (ys : List ℕ) (same : length ys ≡ length (take end s)) (zero : (i : ℕ) → get_or ys i 0 ≡ 0) where
    zeros : (i : ℕ) → i < size sh → get_or (ys ++ drop end s) i 0 ≡ 0
    zeros i below = sym (get_or-take (size sh) (ys ++ drop end s) i 0 below) ∙ ap (λ (r : List ℕ). get_or r i 0) (front_stripe sh s end f ys same) ∙ zero i

    pub shapes_begun : Good sh → d ≡ deed (Some sh) 0 (size sh) 0 → Shapes h p s d (ys ++ drop end s)
    shapes_begun good ed =
        (0, rw (sym is) ((shape_done sh).0 good), inl (refl, rw (sym is) record { is = ed; zeros = zeros; inside = front_inside sh s end f ys same }))
