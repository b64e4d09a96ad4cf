-- `line`: a workspace is no longer than half of a stripe.
use mathlib.Core.Path.{◌≡◌, sym}
use mathlib.Core.List.{List}
use Prim.Native.Nat.{ℕ, ◌*◌, ◌≤◌}
use native.Mathlib.Nat.{mul-le-mul_left}
use native.Mathlib.Omega.{arith}
use lib.ListN.{length, take}
use lib.Seq.{length-take-le}
use Rattle.shape.specs.declared.Shape.{Shape}
use Rattle.shape.specs.Good.{size, Good}
use Rattle.shape.specs.Place.{column_length}
use Rattle.all_pairs.proofs.line.Goals as goal

-- the first n of a list that has them are n
front : (n : ℕ) (l : List ℕ) → n ≤ length l → n ≡ length (take n l)
front n l h = sym (length-take-le n l h)

-- there are at least four columns, so two of them are no longer than half of the stripe
workspace : (sh : Shape) → Good sh → 2 * column_length sh ≤ 32768
unfolding size
workspace sh good = let four : 4 ≤ sh.n = omega (arith, good.m_fits, good.n_fits) in omega (arith, good.all_fits, mul-le-mul_left (column_length sh) four)

pub slice_bounds-work-end : goal.slice_bounds-work-end
slice_bounds-work-end g c = omega (arith, workspace _ c.requires)

pub slice_bounds-rebuilt-end-3 : goal.slice_bounds-rebuilt-end-3
slice_bounds-rebuilt-end-3 g c = front _ _ (omega (arith, workspace _ c.requires))
