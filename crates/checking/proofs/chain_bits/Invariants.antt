-- `chain_bits`. The invariant: `bits` are those below byte `from`, at most 8 in each byte, and the rest is left. The measure: the bytes left.
use mathlib.Core.Path.{◌≡◌}
use Prim.Native.Nat.{◌+◌, ◌*◌, ◌≤◌}
use Rattle.checking.proofs.Counting.{bits}
use Rattle.checking.proofs.chain_bits.Given as goal

abbrev pub invariant-loop-left : goal.invariant-loop-left
invariant-loop-left l = (l.from + l.left ≡ l.wk.shape.w) × (l.bits ≡ bits l.wk.shape l.stripe.bytes.now l.wk.p l.from) × (l.bits ≤ 8 * l.from)

abbrev pub decreases-loop-left : goal.decreases-loop-left
decreases-loop-left l = l.left
