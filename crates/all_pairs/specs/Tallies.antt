-- WHAT KEEPS A TALLY SMALL: none of its counts is over the number of runs, and there are few runs. Definitions only.
use Rattle.std.specs.Prelude.{ℕ, ◌≤◌}
use Rattle.all_pairs.specs.declared.tally.Tally.{Tally}

abbrev pub Sane : Tally → Type 0
Sane t = (t.answered ≤ t.runs) × (t.left ≤ t.runs) × (t.cleared ≤ t.runs)

abbrev pub runs_most : ℕ
runs_most = 4096
