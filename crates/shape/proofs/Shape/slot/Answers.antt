-- `Shape::slot` is the row: the rows of a column stand in their order.
use mathlib.Core.Path.{refl}
use Rattle.shape.specs.Place.{row, slot}
use Rattle.shape.proofs.Shape.slot.Goals as goal

pub returns : goal.returns
unfolding slot row
returns c = refl
