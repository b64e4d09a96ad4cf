-- `fill_pair`. The invariant: the symbols stand whose start is not below d, and nothing beyond the column is touched.
use mathlib.Core.Path.{◌≡◌}
use Prim.Native.Nat.{ℕ, ◌≤◌}
use lib.ListN.{length}
use Rattle.solving.specs.Outer.{Solved}
use Rattle.filling.specs.Filling.{Fillable, Untouched, StandFrom}
use Rattle.filling.proofs.filling.fill_pair.Given as goal

abbrev pub invariant-loop-d : goal.invariant-loop-d
invariant-loop-d l =
    Fillable l.x l.side l.s l.out
    × (l.d ≤ l.x.shape.m)
    × (length l.out ≡ length l.initial.out)
    × ((v : ℕ → ℕ → ℕ → ℕ) → Solved l.x l.s v → StandFrom l.x v l.side l.d l.out × Untouched l.x l.initial.out l.out)
