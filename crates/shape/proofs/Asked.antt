-- What those who ask of a shape learn: past the `?` that it is good and its stripe of the right length, and where the `?` returns the rows by which
-- `accept_stripe` goes.
-- To cite: done_good and done_stripe past the `?`; stripe_stop where it returns; shape_stop and stripe_4 for `accept_stripe` itself.
use mathlib.Core.Path.{◌≡◌, refl}
use mathlib.Core.Logic.{◌≢◌, inl}
use mathlib.Core.List.{List, ◌++◌}
use Prim.Native.Nat.{ℕ}
use native.Mathlib.Omega.{arith}
use lib.ListN.{length}
use Rattle.std.specs.Prelude.{Ok}
use Rattle.shape.specs.declared.Shape.{Shape}
use Rattle.shape.specs.Good.{Good, size}
use Rattle.answer.specs.Answers.{Answer, number, Table, First}
use Rattle.shape.specs.Refusals.{shape_table, stripe_table}
use Rattle.answer.proofs.AnswersLaws.{Lacks, first_stop, first_pass}
use Rattle.shape.proofs.GoodLaws.{shape_done, stripe_done}

-- `accept` answers Ok only for a good shape
pub done_good : (sh : Shape) (a : Answer) → First (shape_table sh) (number a) → a ≡ Ok tt → Good sh
unfolding number
done_good sh a h e = (shape_done sh).1 (rw e at h)

module _ (sh : Shape) (s : List ℕ) where
  pub shape_stop : (k : ℕ) → First (shape_table sh) k → k ≢ 0 → First (stripe_table sh s) k
  unfolding stripe_table
  shape_stop k h ne = first_stop (shape_table sh) _ k h ne

  shape_lacks : Lacks 0 (shape_table sh)
  unfolding shape_table
  shape_lacks = omega arith

  pub stripe_4 : Good sh → length s ≢ size sh → First (stripe_table sh s) 4
  unfolding stripe_table
  stripe_4 good ne = first_pass (shape_table sh) _ 4 shape_lacks ((shape_done sh).0 good) (inl (ne, refl))

  pub done_stripe : (a : Answer) → First (stripe_table sh s) (number a) → a ≡ Ok tt → Good sh × (length s ≡ size sh)
  unfolding number
  done_stripe a h e = (stripe_done sh s).1 (rw e at h)

  pub stripe_stop : (rest : Table) (k : ℕ) → First (stripe_table sh s) k → k ≢ 0 → First (stripe_table sh s ++ rest) k
  stripe_stop rest k h ne = first_stop (stripe_table sh s) rest k h ne
