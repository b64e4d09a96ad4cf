-- `encoded`: encode has one outcome, and P5 is it.
use mathlib.Core.Path.{◌∙◌}
use Rattle.by_hand.proofs.Told.{encode_told}
use Rattle.by_hand.proofs.encoded.Goals as goal

pub expect-requires : goal.expect-requires
expect-requires c =
    c.is_ok.ensures.value ∙ (encode_told _ _ _ c.five.ensures c.encode-answer.ensures).0

pub returns : goal.returns
returns c =
    (encode_told _ _ _ c.five.ensures c.encode-answer.ensures).1
