-- `mend`: a rebuild of the stripe in the front of the buffer.
use mathlib.Core.Path.{refl}
use Rattle.std.proofs.lemmas.Result.{err_from_is_err_and}
use Rattle.std.specs.Prelude.{Ok, Err}
use Rattle.xor.proofs.TellsLaws.{told_no}
use Rattle.answer.specs.Answers.{number}
use Rattle.answer.proofs.AnswersLaws.{refused}
use Rattle.kinds.specs.Kinds.{rebuilding, kind_number}
use Rattle.kinds.proofs.ToldLaws.{told_13, deed_err, told_early}
use Rattle.kinds.proofs.HoldingLaws.{asked_some, late}
use Rattle.mending.proofs.MendingLaws.{lost_done, lost_refused, told_mend}
use Rattle.mending.proofs.rebuilding.mend.Goals as goal

pub returns-in_err-shape : goal.returns-in_err-shape
unfolding kind_number
returns-in_err-shape c =
    let p = err_from_is_err_and c.from_residual.result c.from_residual.ensures.1 in
    (refl, λ clear zero. told_early rebuilding _ _ _ _ clear _ _ _ (λ z. z) c.accepted.ensures c.in_err-shape.ensures.value p)

pub returns-then-miscounted : goal.returns-then-miscounted
unfolding kind_number number
returns-then-miscounted c =
    let z = asked_some _ _ _ _ c.accepted.ensures c.in_ok-shape.ensures.value in
    (refl, λ clear zero. told_13 _ _ _ _ clear _ rebuilding (late rebuilding _ _ z.0 z.1) (c.miscounted.ensures.yes c.if-miscounted.true) refl)

pub returns-in_err-rebuild : goal.returns-in_err-rebuild
returns-in_err-rebuild c =
    let a = c.args in
    let p = err_from_is_err_and c.from_residual-in_err-rebuild.result c.from_residual-in_err-rebuild.ensures.1 in
    let z = asked_some _ _ _ _ c.accepted.ensures c.in_ok-shape.ensures.value in
    let right = told_no c.miscounted.ensures c.if-miscounted.false in
    let call = c.rebuild in (
      call.ensures.cleared.long,
      told_mend _ _ z a.payload.now right a.stripe.now _ c.front-end.ensures _ _ _ _ _ _ c.byte_at-count.ensures.0
          c.byte_at.ensures.0 c.byte_at-2.ensures.0 _ c.named-lost.ensures
          (Err _) c.in_err-rebuild.ensures _ _ (lost_refused _ _ (refused {A = Unit {0}} {x = Err _} refl)) (deed_err _ _ _ _ p),
    )

pub returns : goal.returns
unfolding number
returns c =
    let a = c.args in
    let z = asked_some _ _ _ _ c.accepted.ensures c.in_ok-shape.ensures.value in
    let right = told_no c.miscounted.ensures c.if-miscounted.false in
    let call = c.rebuild in (
      call.ensures.cleared.long,
      told_mend _ _ z a.payload.now right a.stripe.now _ c.front-end.ensures _ _ _ _ _ _ c.byte_at-count.ensures.0
          c.byte_at.ensures.0 c.byte_at-2.ensures.0 _ c.named-lost.ensures
          (Ok tt) c.in_ok-rebuild.ensures _ _ (lost_done _ _ refl) refl,
    )
