-- `pairs_with`: there were at most b runs more.
use Prim.Native.Nat.{◌+◌, ◌≤◌}
use Rattle.all_pairs.specs.Tallies.{Sane}
use Rattle.all_pairs.proofs.trying.pairs_with.Given as goal

abbrev pub invariant-loop-b : goal.invariant-loop-b
invariant-loop-b l = Sane l.tally × (l.tally.runs ≤ l.fn.before.runs + l.b)
