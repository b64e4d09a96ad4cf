-- `written`: small write has one outcome, and P8 is it.
use mathlib.Core.Path.{◌∙◌}
use Rattle.std.proofs.lemmas.Slice.Eq.{bytes_eq-Decides}
use Rattle.demands.specs.Cases.{woven}
use Rattle.demands.proofs.Five.{p8}
use Rattle.by_hand.proofs.Told.{write_told}
use Rattle.by_hand.proofs.written.Goals as goal

pub expect-requires : goal.expect-requires
expect-requires g c =
    c.is_ok.ensures.value ∙ (write_told _ _ _ 4 0 _ _ _ _ c.five.ensures c.encoded-stripe.ensures p8 c.small_write-answer.ensures).0

pub expect-requires-2 : goal.expect-requires-2
unfolding woven
expect-requires-2 g c =
    c.eq.ensures ∙ (bytes_eq-Decides _ _).1
    (write_told _ _ _ 4 0 _ _ _ _ c.five.ensures c.encoded-stripe.ensures p8 c.small_write-answer.ensures).1
