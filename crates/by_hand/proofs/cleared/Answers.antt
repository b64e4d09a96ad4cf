-- `cleared`: raw store has one outcome, and P9 is it.
use mathlib.Core.Path.{◌∙◌}
use Rattle.demands.proofs.Five.{store₉}
use Rattle.by_hand.proofs.Told.{store_told}
use Rattle.by_hand.proofs.cleared.Goals as goal

pub expect-requires : goal.expect-requires
expect-requires c =
    c.is_ok.ensures.value ∙ (store_told _ _ _ 0 0 _ _ _ _ c.five.ensures c.encoded-stripe.ensures store₉ c.raw_store-answer.ensures).0

pub returns : goal.returns
returns c =
    (store_told _ _ _ 0 0 _ _ _ _ c.five.ensures c.encoded-stripe.ensures store₉ c.raw_store-answer.ensures).1
