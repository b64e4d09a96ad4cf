-- `run` adds the heights start to end - 1: the heights below d are added.
use mathlib.Core.Path.{◌≡◌}
use Prim.Native.Nat.{ℕ}
use lib.ListN.{length}
use Rattle.walking.specs.Walk.{Ways}
use Rattle.chain.specs.Chain.{Ran}
use Rattle.chain.proofs.run.Given as goal

abbrev pub invariant-loop-d : goal.invariant-loop-d
invariant-loop-d g l =
    ((p : ℕ) → Ways l.sh p l.l l.r l.base l.start l.end → Ran l.sh l.s p l.start l.d l.from l.len l.initial.acc l.acc) × (length l.acc ≡ g.row.LEN)
