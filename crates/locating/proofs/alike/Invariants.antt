-- `alike`. The invariant: `same` says whether the bytes below `from` differ alike. The measure: the bytes to go.
use Prim.Native.Nat.{◌-◌, ◌≤◌}
use Rattle.xor.specs.Tells.{Tells}
use Rattle.locating.specs.Locating.{Level}
use Rattle.locating.proofs.alike.Given as goal

abbrev pub invariant-loop-from : goal.invariant-loop-from
invariant-loop-from l = (l.from ≤ l.stripe.shape.w) × Tells (Level l.wk.shape l.stripe.bytes.now l.wk.p l.other.p 0 l.from) l.same

abbrev pub decreases-loop-from : goal.decreases-loop-from
decreases-loop-from l = l.stripe.shape.w - l.from
