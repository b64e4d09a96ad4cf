-- `pairs`: there were at most 64 runs for each column.
use Prim.Native.Nat.{◌*◌, ◌≤◌}
use Rattle.all_pairs.specs.Tallies.{Sane}
use Rattle.all_pairs.proofs.trying.pairs.Given as goal

abbrev pub invariant-loop-a : goal.invariant-loop-a
invariant-loop-a l = Sane l.tally × (l.tally.runs ≤ 64 * l.a)
