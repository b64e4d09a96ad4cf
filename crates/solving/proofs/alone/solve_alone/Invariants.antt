-- `solve_alone`: the symbols from height d on are solved, and nothing outside of the column is touched.
use mathlib.Core.Path.{◌≡◌}
use Prim.Native.Nat.{ℕ}
use lib.ListN.{length}
use Rattle.solving.specs.Outer.{Solved}
use Rattle.solving.specs.Alone.{Lone, Kept}
use Rattle.solving.proofs.AloneLaws.{RightFrom}
use Rattle.solving.proofs.alone.solve_alone.Given as goal

abbrev pub invariant-loop-d : goal.invariant-loop-d
invariant-loop-d l =
    Lone l.x l.side l.s l.out
    × (length l.out ≡ length l.initial.out)
    × ((v : ℕ → ℕ → ℕ → ℕ) → Solved l.x l.s v → RightFrom l.x v l.side l.d l.out × Kept l.x l.side l.initial.out l.out)
