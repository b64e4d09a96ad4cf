-- The bits of a block: `sum` is the sum of the bits of the bytes so far, at most 8 in each.
use mathlib.Core.Path.{◌≡◌}
use Prim.Native.Nat.{◌*◌, ◌≤◌}
use lib.Count.{ones}
use lib.ListN.{get_or}
use Rattle.xor.specs.Total.{total}
use Rattle.looking.proofs.count.Given as goal

abbrev pub invariant-loop-k : goal.invariant-loop-k
invariant-loop-k g l = (l.sum ≡ total l.k (λ t. ones (get_or l.acc t 0))) × (l.sum ≤ 8 * l.k)
