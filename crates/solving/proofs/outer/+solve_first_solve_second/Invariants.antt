-- The measure of a call is m minus its height: what a symbol asks for stands higher.
use Rattle.std.proofs.Common.{◌-◌}
use Rattle.solving.proofs.outer.+solve_first_solve_second.Given as goal

abbrev pub decreases-solve_first : goal.decreases-solve_first
decreases-solve_first l = l.x.shape.m - l.d

abbrev pub decreases-solve_second : goal.decreases-solve_second
decreases-solve_second l = l.x.shape.m - l.d
