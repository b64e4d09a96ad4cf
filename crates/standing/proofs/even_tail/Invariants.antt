-- `even_tail`. The invariant: the bytes from `start` to `from` obey the rule. The measure: the bytes to go.
use Prim.Native.Nat.{◌-◌, ◌≤◌}
use Rattle.standing.specs.Standing.{Even}
use Rattle.standing.proofs.even_tail.Given as goal

abbrev pub invariant-loop-from : goal.invariant-loop-from
invariant-loop-from l = (l.start ≤ l.from) × (l.from ≤ l.wk.shape.w) × Even l.wk.shape l.s l.wk.p l.start l.from

abbrev pub decreases-loop-from : goal.decreases-loop-from
decreases-loop-from l = l.wk.shape.w - l.from
