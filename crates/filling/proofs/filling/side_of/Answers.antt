-- `side_of`.
use native.Mathlib.Omega.{arith}
use Rattle.solving.specs.Outer.{column_of}
use Rattle.filling.proofs.filling.side_of.Goals as goal

pub returns-then-wanted-x : goal.returns-then-wanted-x
unfolding column_of
returns-then-wanted-x c = (omega arith, c.if-wanted-x.true)

pub returns-then-wanted-x-2 : goal.returns-then-wanted-x-2
unfolding column_of
returns-then-wanted-x-2 c = (omega arith, c.if-wanted-x-2.true)
