-- `four`: what is read of the four bytes is their number.
use mathlib.Core.Path.{◌∙◌}
use Rattle.v2calls.proofs.LittleLaws.{four_read}
use Rattle.v2calls.proofs.heading.four.Goals as goal

pub returns : goal.returns
returns c = (c.from_le_bytes.ensures ∙ four_read _ _ _ c.get.ensures.at, c.from_le_bytes.type_inv)
