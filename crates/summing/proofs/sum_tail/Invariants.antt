-- `sum_tail`. The invariant: the bytes from `start` to below `from` are set. The measure: the bytes to go.
use Prim.Native.Nat.{◌-◌, ◌≤◌}
use Rattle.summing.specs.Sums.{Summed}
use Rattle.summing.proofs.sum_tail.Given as goal

abbrev pub invariant-loop-from : goal.invariant-loop-from
invariant-loop-from l = (l.start ≤ l.from) × (l.from ≤ l.w) × Summed l.s l.list l.x l.at l.start l.from l.initial.out l.out

abbrev pub decreases-loop-from : goal.decreases-loop-from
decreases-loop-from l = l.w - l.from
