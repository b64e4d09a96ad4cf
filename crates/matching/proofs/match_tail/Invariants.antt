-- `match_tail`. The invariant: the bytes from `start` to before `from` are the same. The measure: the bytes to go.
use Prim.Native.Nat.{◌-◌, ◌≤◌}
use Rattle.summing.specs.Sums.{summed}
use Rattle.matching.specs.Matching.{Level, bytes_at}
use Rattle.matching.proofs.match_tail.Given as goal

abbrev pub invariant-loop-from : goal.invariant-loop-from
invariant-loop-from l = (l.start ≤ l.from) × (l.from ≤ l.w) × Level (summed l.s l.out l.list l.x) (bytes_at l.u l.at) l.start l.from

abbrev pub decreases-loop-from : goal.decreases-loop-from
decreases-loop-from l = l.w - l.from
