-- `change_blocks`. The invariant: the bytes below t are changed, and what is left is a number of whole blocks. The measure: the bytes to go.
use mathlib.Core.Path.{◌≡◌}
use Prim.Native.Nat.{◌-◌, ◌%◌, ◌≤◌}
use Rattle.xor.specs.Spanned.{Spanned, change_of}
use Rattle.writing.proofs.change_blocks.Given as goal

abbrev pub invariant-loop-t : goal.invariant-loop-t
invariant-loop-t l = (l.t ≤ l.whole) × ((l.whole - l.t) % 128 ≡ 0) × Spanned (change_of l.initial.s l.at l.from l.x) l.initial.s l.s l.at l.t

abbrev pub decreases-loop-t : goal.decreases-loop-t
decreases-loop-t l = l.whole - l.t
