-- `upward`: it is as far up from a to b as the column a to the left of b has columns to its left.
use mathlib.Core.Path.{◌∙◌}
use Rattle.rule.proofs.OrderLaws.{walk_left}
use Rattle.staging.proofs.reading.upward.Goals as goal

pub returns : goal.returns
returns c = c.below.ensures.is ∙ walk_left _ _ _
