-- `accept`: each return is the first row of the call's table that applies; past them all none applies.
use mathlib.Core.Path.{◌≡◌, refl}
use mathlib.Core.Logic.{inl, inr}
use native.Mathlib.Omega.{arith}
use lib.ListN.{length}
use Rattle.std.proofs.lemmas.Result.{err_from_is_err_and}
use Rattle.xor.proofs.TellsLaws.{told_no}
use Rattle.shape.specs.Good.{Good, size}
use Rattle.answer.specs.Answers.{refusal_number, number}
use Rattle.answer.proofs.AnswersLaws.{refused}
use Rattle.shape.proofs.Asked.{done_stripe, stripe_stop}
use Rattle.shape.proofs.GoodLaws.{stripe_pass}
use Rattle.rebuild.specs.Rebuild.{early_table}
use Rattle.rebuild.proofs.refusing.accept.Goals as goal
use Rattle.rebuild.proofs.refusing.accept.Goals.{In_ok-accept_stripe}

-- past the `?` the shape is good and the stripe is of its length
whole : (c : In_ok-accept_stripe) → let a = c.args in Good a.shape × (length a.stripe.now ≡ size a.shape)
whole c = done_stripe _ _ _ c.accept_stripe.ensures c.in_ok-accept_stripe.was

pub returns-in_err-accept_stripe : goal.returns-in_err-accept_stripe
unfolding early_table
returns-in_err-accept_stripe c =
    let a = c.args in
    let p = err_from_is_err_and c.from_residual.result c.from_residual.ensures.1 in
    rw (p.1, p.2) (stripe_stop a.shape a.stripe.now _ _ c.in_err-accept_stripe.ensures (refused refl))

pub column_length-requires : goal.column_length-requires
column_length-requires c = (whole c).0

pub returns-then-room-column_length : goal.returns-then-room-column_length
unfolding early_table number refusal_number
returns-then-room-column_length c =
    let a = c.args in
    let (good, len) = whole (goal.at.returns-then-room-column_length c).In_ok-accept_stripe in
    stripe_pass a.shape a.stripe.now _ 5 good len (inl (omega (arith, c.column_length.ensures.is), refl))

pub returns-then-beyond : goal.returns-then-beyond
unfolding early_table number refusal_number
returns-then-beyond c =
    let a = c.args in
    let (good, len) = whole (goal.at.returns-then-beyond c).In_ok-accept_stripe in
    stripe_pass a.shape a.stripe.now _ 6 good len (inr ((λ l. omega (arith, c.column_length.ensures.is)), inl (c.beyond.ensures.yes c.if-beyond.true, refl)))

pub returns-then-twice : goal.returns-then-twice
unfolding early_table number refusal_number
returns-then-twice c =
    let a = c.args in
    let (good, len) = whole (goal.at.returns-then-twice c).In_ok-accept_stripe in
    stripe_pass a.shape a.stripe.now _ 7 good len (inr ((λ l. omega (arith, c.column_length.ensures.is)), inr (told_no c.beyond.ensures c.if-beyond.false, inl (c.twice.ensures.yes c.if-twice.true, refl))))

pub returns : goal.returns
unfolding early_table number refusal_number
returns c =
    let a = c.args in
    let (good, len) = whole (goal.at.returns c).In_ok-accept_stripe in
    stripe_pass a.shape a.stripe.now _ 0 good len (inr ((λ l. omega (arith, c.column_length.ensures.is)), inr (told_no c.beyond.ensures c.if-beyond.false, inr (told_no c.twice.ensures c.if-twice.false, refl))))
