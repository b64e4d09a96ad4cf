-- `Shape::row` is the mirrored number.
use Rattle.shape.specs.Place.{row}
use Rattle.shape.proofs.Shape.row.Goals as goal

pub returns : goal.returns
unfolding row
returns c = c.mirrored.ensures
