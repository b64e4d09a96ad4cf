-- `flipped`: raw store has one outcome, and P10 is it.
use mathlib.Core.Path.{◌∙◌}
use Rattle.demands.proofs.Five.{store₁₀}
use Rattle.by_hand.proofs.Told.{store_told}
use Rattle.by_hand.proofs.flipped.Goals as goal

pub expect-requires : goal.expect-requires
expect-requires c =
    c.is_ok.ensures.value ∙ (store_told _ _ _ 1 0 _ _ _ _ c.five.ensures c.cleared-stripe.ensures store₁₀ c.raw_store-answer.ensures).0

pub returns : goal.returns
returns c =
    (store_told _ _ _ 1 0 _ _ _ _ c.five.ensures c.cleared-stripe.ensures store₁₀ c.raw_store-answer.ensures).1
