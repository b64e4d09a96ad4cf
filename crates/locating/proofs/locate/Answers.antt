-- `locate`: refused, it finds nothing; of the stripe that was given, with no bit it is sound, and otherwise what the search finds is what a change
-- within one column can mend.
use native.Mathlib.Omega.{arith}
use Rattle.std.proofs.lemmas.Result.{err_from_is_err_and}
use Rattle.answer.proofs.OutcomeLaws.{outcome_refused, outcome_given}
use Rattle.rule.specs.Losses.{Bytes}
use Rattle.locating.specs.Locate.{found}
use Rattle.xor.proofs.TellsLaws.{told_no}
use Rattle.locating.proofs.LocatingLaws.{names_sound, names_searched}
use Rattle.locating.proofs.locate.Goals as goal

pub returns-in_err-stripe : goal.returns-in_err-stripe
returns-in_err-stripe c =
    let p = err_from_is_err_and c.from_residual.result c.from_residual.ensures.1 in
    rw (p.1, p.2) (outcome_refused _ _ _ c.in_err-stripe.ensures.table)

pub returns-then-unbroken : goal.returns-then-unbroken
unfolding found
returns-then-unbroken c =
    let e = c.in_ok-stripe.ensures.given in
    let z = names_sound _ _ _ c.bits_by_chain-bits.ensures (c.unbroken.ensures.yes c.if-unbroken.true) in
    outcome_given _ _ c.in_ok-stripe.ensures.table (rw (e.0, e.1) at z)

pub returns : goal.returns
returns c =
    let e = c.in_ok-stripe.ensures.given in
    let at = c.in_ok-stripe.stripe in
    let bytes : Bytes at.bytes.now = rw e.1 (λ i l. omega (arith, c.type_inv.stripe i)) in
    let z = names_searched _ _ _ c.bits_by_chain-bits.ensures at.good at.whole bytes (told_no c.unbroken.ensures c.if-unbroken.false) _ c.search.ensures in
    outcome_given _ _ c.in_ok-stripe.ensures.table (rw (e.0, e.1) at z)
