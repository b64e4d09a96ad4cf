-- `counted`: `broken` and `bits` are the counts of the chains so far.
use mathlib.Core.Path.{◌≡◌}
use Prim.Native.Nat.{◌*◌, ◌≤◌}
use Rattle.xor.specs.Total.{total}
use Rattle.checking.specs.Check.{count, breaks, chain_bits}
use Rattle.checking.proofs.counted.Given as goal

abbrev pub invariant-loop-differing : goal.invariant-loop-differing
invariant-loop-differing l =
    let k = l.differing-index in
    (l.broken ≤ k) × (l.bits ≤ 65536 * k) × (l.broken ≡ count k (breaks l.stripe.shape l.stripe.bytes.now)) × (l.bits ≡ total k (chain_bits l.stripe.shape l.stripe.bytes.now))
