-- `stage_pair`: the symbols are staged whose start is not below d.
use mathlib.Core.Path.{◌≡◌}
use Prim.Native.Nat.{ℕ}
use lib.ListN.{length}
use Rattle.solving.specs.Outer.{Solved}
use Rattle.staging.specs.Staging.{Stageable, StagedFrom}
use Rattle.staging.proofs.staging.stage_pair.Given as goal

abbrev pub invariant-loop-d : goal.invariant-loop-d
invariant-loop-d l =
    Stageable l.x l.s l.out
    × (length l.out ≡ length l.initial.out)
    × ((v : ℕ → ℕ → ℕ → ℕ) → Solved l.x l.s v → StagedFrom l.x v l.d l.out)
