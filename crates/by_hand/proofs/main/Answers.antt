-- `main`: the stripe of P5 is these bytes.
use mathlib.Core.Path.{◌∙◌}
use Rattle.std.proofs.lemmas.Slice.Eq.{bytes_eq-Decides}
use Rattle.demands.specs.Cases.{woven, information, parity, stripe₅}
use Rattle.by_hand.proofs.main.Goals as goal

pub expect-requires : goal.expect-requires
unfolding woven information parity stripe₅
expect-requires c = c.eq.ensures ∙ (bytes_eq-Decides _ _).1 c.encoded-stripe.ensures
