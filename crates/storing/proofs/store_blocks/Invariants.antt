-- `store_blocks`. The invariant: the bytes below t are stored, and what is left is a number of whole blocks. The measure: the bytes to go.
use mathlib.Core.Path.{◌≡◌}
use Prim.Native.Nat.{◌-◌, ◌%◌, ◌≤◌}
use lib.ListN.{get_or}
use Rattle.xor.specs.Spanned.{Spanned}
use Rattle.storing.proofs.store_blocks.Given as goal

abbrev pub invariant-loop-t : goal.invariant-loop-t
invariant-loop-t l = (l.t ≤ l.whole) × ((l.whole - l.t) % 128 ≡ 0) × Spanned (λ k. get_or l.symbol k 0) l.initial.stripe l.stripe l.at l.t

abbrev pub decreases-loop-t : goal.decreases-loop-t
decreases-loop-t l = l.whole - l.t
