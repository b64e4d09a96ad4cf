-- `encode_blocks`. The invariant: the bytes below `from` are set, and what is left is a number of whole blocks. The measure: the bytes to go.
use mathlib.Core.Path.{◌≡◌}
use Prim.Native.Nat.{◌-◌, ◌%◌, ◌≤◌}
use Rattle.encoding.specs.Settled.{Settled, Stretch}
use Rattle.encoding.proofs.encode_blocks.Given as goal

abbrev pub invariant-loop-from : goal.invariant-loop-from
invariant-loop-from l = (l.from ≤ l.whole) × ((l.whole - l.from) % 128 ≡ 0) × Settled l.wk.shape (Stretch l.wk.p 0 l.from) l.initial.stripe l.stripe

abbrev pub decreases-loop-from : goal.decreases-loop-from
decreases-loop-from l = l.whole - l.from
