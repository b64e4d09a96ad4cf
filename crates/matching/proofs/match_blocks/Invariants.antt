-- `match_blocks`. The invariant: the bytes before `from` are the same, and what is left is a number of whole blocks. The measure: the bytes to go.
use mathlib.Core.Path.{◌≡◌}
use Prim.Native.Nat.{◌-◌, ◌%◌, ◌≤◌}
use Rattle.summing.specs.Sums.{summed}
use Rattle.matching.specs.Matching.{Level, bytes_at}
use Rattle.matching.proofs.match_blocks.Given as goal

abbrev pub invariant-loop-from : goal.invariant-loop-from
invariant-loop-from l = (l.from ≤ l.whole) × ((l.whole - l.from) % 128 ≡ 0) × Level (summed l.s l.out l.list l.x) (bytes_at l.u l.at) 0 l.from

abbrev pub decreases-loop-from : goal.decreases-loop-from
decreases-loop-from l = l.whole - l.from
