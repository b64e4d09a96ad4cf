-- `spoil`: what stands outside is as it was.
use mathlib.Core.Path.{◌≡◌}
use mathlib.Core.Logic.{◌⊎◌}
use Prim.Native.Nat.{ℕ, ◌≤◌, ◌<◌}
use lib.ListN.{get_or}
use Rattle.spring.proofs.spoil.Given as goal

abbrev pub invariant-loop-i : goal.invariant-loop-i
invariant-loop-i l = (k : ℕ) → (k < l.from) ⊎ (l.to ≤ k) → get_or l.s k 0 ≡ get_or l.initial.s k 0
