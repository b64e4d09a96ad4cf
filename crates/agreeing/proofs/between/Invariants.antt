-- `between`: p is the chain before the one that is e up from first, and those up to it hold.
use mathlib.Core.Path.{◌≡◌}
use Prim.Native.Nat.{ℕ, ◌-◌, ◌≤◌, ◌<◌}
use Rattle.shape.specs.Step.{right}
use Rattle.agreeing.specs.Agreeing.{Holds}
use Rattle.agreeing.proofs.between.Given as goal

abbrev pub invariant-loop-e : goal.invariant-loop-e
invariant-loop-e l =
    (l.p < l.x.shape.n) × (l.p ≡ right l.x.shape.n l.x.first (l.e - 1)) × ((d : ℕ) → d < l.e → 1 ≤ d → Holds l.x l.s l.out (right l.x.shape.n l.x.first d))
