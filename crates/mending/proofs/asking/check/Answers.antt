-- `check`: a check of the stripe in the front of the buffer.
use mathlib.Core.Path.{refl}
use Rattle.std.proofs.lemmas.Result.{err_from_is_err_and}
use Rattle.std.specs.Prelude.{Ok, Err}
use Rattle.answer.specs.Answers.{number}
use Rattle.kinds.specs.Kinds.{checking, kind_number}
use Rattle.kinds.proofs.ToldLaws.{told_13, deed_err, told_early}
use Rattle.kinds.proofs.HoldingLaws.{asked_some, late}
use Rattle.mending.proofs.AskingLaws.{told_check}
use Rattle.mending.proofs.asking.check.Goals as goal

pub returns-in_err-shape : goal.returns-in_err-shape
unfolding kind_number
returns-in_err-shape c =
    let p = err_from_is_err_and c.from_residual.result c.from_residual.ensures.1 in
    λ room work. told_early checking _ _ _ room work _ _ _ (λ z. z) c.accepted.ensures c.in_err-shape.ensures.value p

pub returns-then-payload-ne0 : goal.returns-then-payload-ne0
unfolding kind_number number
returns-then-payload-ne0 c =
    let z = asked_some _ _ _ _ c.accepted.ensures c.in_ok-shape.ensures.value in
    λ room work. told_13 _ _ _ room work _ checking (late checking _ _ z.0 z.1) c.if-payload-ne0.true refl

pub returns-in_err-report : goal.returns-in_err-report
returns-in_err-report c =
    let a = c.args in
    let p = err_from_is_err_and c.from_residual-in_err-report.result c.from_residual-in_err-report.ensures.1 in
    let z = asked_some _ _ _ _ c.accepted.ensures c.in_ok-shape.ensures.value in
    λ room work. told_check _ _ z a.payload.now c.if-payload-ne0.false a.stripe.now _ c.front-end.ensures _ room work (Err _)
    c.in_err-report.ensures (deed_err _ _ _ _ p)

pub returns : goal.returns
unfolding number
returns c =
    let a = c.args in
    let z = asked_some _ _ _ _ c.accepted.ensures c.in_ok-shape.ensures.value in
    λ room work. told_check _ _ z a.payload.now c.if-payload-ne0.false a.stripe.now _ c.front-end.ensures _ room work (Ok _)
    c.in_ok-report.ensures refl
