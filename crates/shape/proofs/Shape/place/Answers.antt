use native.Mathlib.Omega.{arith}
use Rattle.shape.proofs.Fits.{placed}
use Rattle.shape.proofs.Shape.place.Goals as goal

-- `Shape::place` is where the symbol starts: both products are parts of a place, and every place is inside the stripe.
pub returns : goal.returns
returns c =
    placed _ c.requires.0 _ c.args.column _ _ c.requires.1 c.requires.2 c.column_length.ensures.is c.slot.ensures

pub overflow_mul-result-2 : goal.overflow_mul-result-2
overflow_mul-result-2 c = let p = returns c in omega arith

pub overflow_add-result : goal.overflow_add-result
overflow_add-result c = let p = returns c in omega arith
