-- `altered`: there were c runs.
use mathlib.Core.Path.{◌≡◌}
use Rattle.all_pairs.specs.Tallies.{Sane}
use Rattle.all_pairs.proofs.trying.altered.Given as goal

abbrev pub invariant-loop-c : goal.invariant-loop-c
invariant-loop-c l = Sane l.tally × (l.tally.runs ≡ l.c)
