-- Laws of Front: the front of a buffer is the stripe in it, and what a call leaves there is the stripe after it, the rest as it was.
-- To cite: outcome_long, front_take, front_stripe, front_inside.
use mathlib.Core.Path.{◌≡◌, sym, ap, ◌∙◌}
use mathlib.Core.Logic.{◌⊎◌, inl, inr}
use mathlib.Core.List.{List, ◌++◌, append-nil}
use Prim.Native.Nat.{ℕ}
use native.Mathlib.Omega.{arith}
use native.Mathlib.Decide.{ℕ_discrete}
use lib.ListN.{length, take, drop, drop_of_length-le}
use lib.Seq.{take_all, length-take-le, length_front, take-append_seam, drop-append_seam}
use Rattle.shape.specs.declared.Shape.{Shape}
use Rattle.shape.specs.Good.{size}
use Rattle.answer.specs.Answers.{Table}
use Rattle.answer.specs.Outcome.{Outcome}
use Rattle.kinds.specs.Kinds.{stripe, Inside}
use Rattle.kinds.specs.Holding.{Front}

-- a call leaves a list as long as it was: a refused one leaves the list itself
pub outcome_long : {T : Table} {kept out : List ℕ} {Does : List ℕ → Type 0} {n : ℕ}
    → (Does out → length out ≡ length kept) → Outcome T kept Does n out → length out ≡ length kept
outcome_long {T} {kept} {out} {Does} {n} keeps o = at (ℕ_discrete n 0)
  where
    at : Dec (n ≡ 0) → length out ≡ length kept
    at (yes e) = keeps (o.done e)
    at (no e) = ap length (o.refused e)

module _ (sh : Shape) (s : List ℕ) (end : ℕ) (f : Front sh (length s) end) where
  pub front_take : take end s ≡ stripe sh s
  front_take = at f.whole
    where
      at : (end ≡ size sh) ⊎ (end ≡ length s) → take end s ≡ take (size sh) s
      at (inl e) = ap (λ (k : ℕ). take k s) e
      at (inr e) = take_all end s (omega (arith, e)) ∙ sym (take_all (size sh) s (omega (arith, e, f.most)))

  module _ (ys : List ℕ) (same : length ys ≡ length (take end s)) where
    long : length ys ≡ end
    long = same ∙ length-take-le end s f.inside

    pub front_stripe : stripe sh (ys ++ drop end s) ≡ ys
    front_stripe = at f.whole
      where
        at : (end ≡ size sh) ⊎ (end ≡ length s) → take (size sh) (ys ++ drop end s) ≡ ys
        at (inl e) = ap (λ (k : ℕ). take k (ys ++ drop end s)) (sym (long ∙ e)) ∙ take-append_seam ys (drop end s)
        at (inr e) =
            ap (λ (r : List ℕ). take (size sh) (ys ++ r)) (drop_of_length-le s {i = end} (omega (arith, e)))
            ∙ ap (λ (r : List ℕ). take (size sh) r) (append-nil ys)
            ∙ take_all (size sh) ys (omega (arith, long, f.most))

    front_long : length (ys ++ drop end s) ≡ length s
    front_long = length_front s ys end same

    front_rest : drop (size sh) (ys ++ drop end s) ≡ drop (size sh) s
    front_rest = at f.whole
      where
        at : (end ≡ size sh) ⊎ (end ≡ length s) → drop (size sh) (ys ++ drop end s) ≡ drop (size sh) s
        at (inl e) =
            ap (λ (k : ℕ). drop k (ys ++ drop end s)) (sym (long ∙ e)) ∙ drop-append_seam ys (drop end s) ∙ ap (λ (k : ℕ). drop k s) e
        at (inr e) =
            drop_of_length-le (ys ++ drop end s) {i = size sh} (omega (arith, front_long, e, f.most))
            ∙ sym (drop_of_length-le s {i = size sh} (omega (arith, e, f.most)))

    pub front_inside : Inside sh s (ys ++ drop end s)
    front_inside = record { long = front_long; rest = front_rest }
