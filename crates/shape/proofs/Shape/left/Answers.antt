-- `Shape::left` is the definition word for word; a remainder of n is below n.
use mathlib.Core.Path.{refl}
use native.Mathlib.Omega.{arith}
use Rattle.shape.specs.Step.{left}
use Rattle.shape.proofs.StepLaws.{left_lt}
use Rattle.shape.proofs.Shape.left.Goals as goal

pub returns : goal.returns
unfolding left
returns c = record { is = refl; below = left_lt c.args.self.n c.args.column c.args.height (omega arith) (omega arith) }
