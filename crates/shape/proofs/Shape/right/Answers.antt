-- `Shape::right` is the definition word for word; a remainder of n is below n.
use mathlib.Core.Path.{refl}
use native.Mathlib.Omega.{arith}
use Rattle.shape.specs.Step.{right}
use Rattle.shape.proofs.StepLaws.{right_lt}
use Rattle.shape.proofs.Shape.right.Goals as goal

pub returns : goal.returns
unfolding right
returns c = record { is = refl; below = right_lt c.args.self.n c.args.column c.args.height (omega arith) (omega arith) }
