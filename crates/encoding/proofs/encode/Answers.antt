-- `encode`: refused, the stripe is as it was; done, every parity symbol is set.
use Rattle.std.proofs.lemmas.Result.{err_from_is_err_and}
use Rattle.answer.proofs.OutcomeLaws.{outcome_refused, outcome_given}
use Rattle.shape.proofs.Asked.{done_stripe}
use Rattle.encoding.proofs.encode.Goals as goal

pub returns-in_err-accept_stripe : goal.returns-in_err-accept_stripe
returns-in_err-accept_stripe c =
    let p = err_from_is_err_and c.from_residual.result c.from_residual.ensures.1 in
    rw (p.1, p.2) (outcome_refused _ _ _ c.in_err-accept_stripe.ensures)

pub encode_all-requires : goal.encode_all-requires
encode_all-requires c = done_stripe _ _ _ c.accept_stripe.ensures c.in_ok-accept_stripe.was

pub returns : goal.returns
returns c = outcome_given _ _ c.in_ok-accept_stripe.ensures c.encode_all.ensures
