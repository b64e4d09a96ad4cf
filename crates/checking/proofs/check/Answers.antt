-- `check`: what is refused reports zeros; what is counted is the stripe that was given.
use Rattle.std.proofs.lemmas.Result.{err_from_is_err_and}
use Rattle.answer.proofs.OutcomeLaws.{outcome_refused}
use Rattle.checking.proofs.check.Goals as goal

pub returns-in_err-stripe : goal.returns-in_err-stripe
returns-in_err-stripe c =
    let p = err_from_is_err_and c.from_residual.result c.from_residual.ensures.1 in
    rw (p.1, p.2) (outcome_refused _ _ _ c.in_err-stripe.ensures.table)

pub returns : goal.returns
returns c = let e = c.in_ok-stripe.ensures.given in rw (e.0, e.1) at c.counted.ensures
