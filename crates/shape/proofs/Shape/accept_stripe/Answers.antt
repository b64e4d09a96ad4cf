-- `Shape::accept_stripe`: the shape is asked first; a shape that is accepted is good, so its stripe's length may be asked.
use Rattle.std.proofs.Common.{refl, arith}
use Rattle.std.proofs.lemmas.Result.{err_from_is_err_and}
use Rattle.shape.specs.Good.{Good}
use Rattle.answer.specs.Answers.{refusal_number, number}
use Rattle.shape.proofs.Asked.{done_good, shape_stop, stripe_4}
use Rattle.answer.proofs.AnswersLaws.{refused}
use Rattle.shape.proofs.GoodLaws.{stripe_done}
use Rattle.shape.proofs.Shape.accept_stripe.Goals as goal
use Rattle.shape.proofs.Shape.accept_stripe.Goals.{In_ok-accept}

good : (c : In_ok-accept) → Good c.args.self
good c = done_good _ _ c.accept.ensures c.in_ok-accept.was

pub returns-in_err-accept : goal.returns-in_err-accept
returns-in_err-accept c =
    let p = err_from_is_err_and c.from_residual.result c.from_residual.ensures.1 in
    rw (p.1, p.2) (shape_stop _ _ _ c.in_err-accept.ensures (refused refl))

pub stripe_length-requires : goal.stripe_length-requires
stripe_length-requires c = good c

pub returns-then-stripe-stripe_length : goal.returns-then-stripe-stripe_length
unfolding number refusal_number
returns-then-stripe-stripe_length c = stripe_4 _ _ (good (goal.at.returns-then-stripe-stripe_length c).In_ok-accept) (λ e. omega (arith, c.stripe_length.ensures.is))

pub returns : goal.returns
unfolding number
returns c = (stripe_done _ _).0 (good (goal.at.returns c).In_ok-accept, omega (arith, c.stripe_length.ensures.is))
