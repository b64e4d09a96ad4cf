-- `encoded`: an encoded stripe obeys the rule.
use mathlib.Core.Path.{◌∙◌}
use Rattle.spring.proofs.Told.{obeys_told}
use Rattle.spring.proofs.encoded.Goals as goal

pub returns : goal.returns
returns c = λ good len. obeys_told c.args.shape c.pattern.new.s c.encode.result c.encode.new.stripe c.encode.ensures good (c.pattern.auto.s ∙ len)
