-- `sum_blocks`. The invariant: the bytes below `from` are set, and what is left is a number of whole blocks. The measure: the bytes to go.
use mathlib.Core.Path.{◌≡◌}
use Prim.Native.Nat.{◌-◌, ◌%◌, ◌≤◌}
use Rattle.summing.specs.Sums.{Summed}
use Rattle.summing.proofs.sum_blocks.Given as goal

abbrev pub invariant-loop-from : goal.invariant-loop-from
invariant-loop-from l = (l.from ≤ l.whole) × ((l.whole - l.from) % 128 ≡ 0) × Summed l.s l.list l.x l.at 0 l.from l.initial.out l.out

abbrev pub decreases-loop-from : goal.decreases-loop-from
decreases-loop-from l = l.whole - l.from
