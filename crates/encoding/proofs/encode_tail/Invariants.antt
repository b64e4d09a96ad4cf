-- `encode_tail`: the bytes from `start` to below `from` are set. The measure: the bytes to go.
use Prim.Native.Nat.{◌-◌, ◌≤◌}
use Rattle.encoding.specs.Settled.{Settled, Stretch}
use Rattle.encoding.proofs.encode_tail.Given as goal

abbrev pub invariant-loop-from : goal.invariant-loop-from
invariant-loop-from l = (l.start ≤ l.from) × (l.from ≤ l.wk.shape.w) × Settled l.wk.shape (Stretch l.wk.p l.start l.from) l.initial.stripe l.stripe

abbrev pub decreases-loop-from : goal.decreases-loop-from
decreases-loop-from l = l.wk.shape.w - l.from
