-- `within`: no chain below p that is apart from c is marked.
use mathlib.Core.Path.{◌≡◌}
use Prim.Native.Nat.{ℕ, ◌<◌}
use lib.ListN.{get_or}
use Rattle.locating.specs.Locating.{Apart}
use Rattle.locating.proofs.within.Given as goal

abbrev pub invariant-loop-p : goal.invariant-loop-p
invariant-loop-p l = (q : ℕ) → q < l.p → Apart l.shape l.c q → get_or l.bits q 0 ≡ 0
