-- `eight`: what is read of the eight bytes is their number.
use mathlib.Core.Path.{◌∙◌}
use Rattle.v2calls.proofs.LittleLaws.{eight_read}
use Rattle.v2calls.proofs.heading.eight.Goals as goal

pub returns : goal.returns
returns c = c.from_le_bytes.ensures ∙ eight_read _ _ _ c.get.ensures.at
