-- `Shape::height` is the mirrored number.
use Rattle.shape.specs.Place.{height}
use Rattle.shape.proofs.Shape.height.Goals as goal

pub returns : goal.returns
unfolding height
returns c = c.mirrored.ensures
