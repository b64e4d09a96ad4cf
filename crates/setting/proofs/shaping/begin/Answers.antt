-- `begin`: the payload names a shape; it is refused, or its stripe is cleared.
use mathlib.Core.Path.{refl}
use Rattle.std.proofs.lemmas.Result.{err_from_is_err_and}
use Rattle.std.specs.Prelude.{Err}
use Rattle.answer.specs.Answers.{number}
use Rattle.answer.proofs.AnswersLaws.{refused}
use Rattle.shape.proofs.Asked.{done_good}
use Rattle.kinds.specs.Kinds.{shaping, kind_number}
use Rattle.kinds.proofs.ToldLaws.{told_13, told_0}
use Rattle.setting.proofs.ShapingLaws.{named_is, shapes_refused, shapes_begun, begun_err}
use Rattle.setting.proofs.shaping.begin.Goals as goal

pub returns-then-payload-ne4-clause-told : goal.returns-then-payload-ne4-clause-told
unfolding kind_number number
returns-then-payload-ne4-clause-told c = λ held room work. told_13 held _ _ room work _ shaping (λ z. z) c.if-payload-ne4.true refl

pub returns-in_err-accept-clause-told : goal.returns-in_err-accept-clause-told
unfolding kind_number
returns-in_err-accept-clause-told c =
    let a = c.args in
    let p = err_from_is_err_and c.from_residual.result c.from_residual.ensures.1 in
    let is = named_is a.payload.now _ _ _ c.byte_at.ensures.0 c.byte_at-2.ensures.0 c.two_bytes.ensures.0 in
    λ held room work. told_0 held a.payload.now a.stripe.now room work _ shaping (λ z. z) _ (λ w. w c.if-payload-ne4.false)
    (shapes_refused _ _ _ _ is _ _ c.in_err-accept.ensures (refused {A = Unit {0}} {x = Err _} refl) (begun_err held _ _ p))

pub front-end-requires : goal.front-end-requires
front-end-requires c = done_good _ _ c.accept.ensures c.in_ok-accept.was

pub returns-clause-told : goal.returns-clause-told
unfolding kind_number
returns-clause-told c =
    let a = c.args in
    let is = named_is a.payload.now _ _ _ c.byte_at.ensures.0 c.byte_at-2.ensures.0 c.two_bytes.ensures.0 in
    let clear = c.clear.ensures in
    λ held room work. told_0 held a.payload.now a.stripe.now room work _ shaping (λ z. z) _ (λ w. w c.if-payload-ne4.false)
    (shapes_begun held _ _ _ is _ _ c.front-end.ensures c.clear.new.s clear.0 clear.1 (done_good _ _ c.accept.ensures c.in_ok-accept.was) refl)

pub returns-clause-good : goal.returns-clause-good
returns-clause-good c = done_good _ _ c.accept.ensures c.in_ok-accept.was
