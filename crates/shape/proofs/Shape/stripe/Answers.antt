-- `Shape::stripe` refuses as `accept_stripe` does; what it accepts is a stripe.
use Rattle.std.proofs.lemmas.Result.{err_from_is_err_and}
use Rattle.answer.specs.Answers.{number}
use Rattle.shape.proofs.Asked.{done_stripe}
use Rattle.shape.proofs.Shape.stripe.Goals as goal

pub returns-in_err-accept_stripe-clause-table : goal.returns-in_err-accept_stripe-clause-table
unfolding number
returns-in_err-accept_stripe-clause-table c =
    let p = err_from_is_err_and c.from_residual.result c.from_residual.ensures.1 in
    rw (p.1, p.2) c.in_err-accept_stripe.ensures

pub invariant_of-result : goal.invariant_of-result
invariant_of-result c = let z = done_stripe _ _ _ c.accept_stripe.ensures c.in_ok-accept_stripe.was in record { good = z.0; whole = z.1 }

pub returns-clause-table : goal.returns-clause-table
unfolding number
returns-clause-table c = c.in_ok-accept_stripe.ensures
