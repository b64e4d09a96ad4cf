-- `bits_by_chain`: the chains below p have their bits.
use mathlib.Core.Path.{◌≡◌}
use Prim.Native.Nat.{ℕ, ◌<◌}
use lib.ListN.{length, get_or}
use Rattle.checking.specs.Bits.{Chain}
use Rattle.checking.proofs.bits_by_chain.Given as goal

abbrev pub invariant-loop-p : goal.invariant-loop-p
invariant-loop-p l = (length l.bits ≡ 64) × ((q : ℕ) → q < l.p → Chain l.stripe.shape l.stripe.bytes.now q (get_or l.bits q 0))
