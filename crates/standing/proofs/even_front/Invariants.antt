-- `even_front`. The invariant: the bytes before `from` obey the rule, and what is left before `whole` is a number of whole blocks. The measure: the bytes to go.
use mathlib.Core.Path.{◌≡◌}
use Prim.Native.Nat.{◌-◌, ◌%◌, ◌≤◌}
use Rattle.standing.specs.Standing.{Even}
use Rattle.standing.proofs.even_front.Given as goal

abbrev pub invariant-loop-from : goal.invariant-loop-from
invariant-loop-from l = (l.from ≤ l.whole) × ((l.whole - l.from) % 128 ≡ 0) × Even l.wk.shape l.s l.wk.p 0 l.from

abbrev pub decreases-loop-from : goal.decreases-loop-from
decreases-loop-from l = l.whole - l.from
