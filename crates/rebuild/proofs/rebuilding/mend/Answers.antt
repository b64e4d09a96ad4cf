-- `mend`: what is staged are the columns of one stripe, and the survivors agree exactly where it obeys the rule.
use mathlib.Core.Path.{refl, sym}
use native.Mathlib.Omega.{arith}
use borrow.Author.Tests.{not-true, not-false}
use Rattle.answer.specs.Answers.{refusal_number, number}
use Rattle.xor.proofs.TellsLaws.{told_no}
use Rattle.rebuild.proofs.MendingLaws.{mend_table, mend_led, mend_stageable, mend_patchable, mend_in_order, mend_disagree, mend_done}
use Rattle.rebuild.proofs.rebuilding.mend.Goals as goal

pub stage-requires : goal.stage-requires
stage-requires c =
    let x = c.read-x in (
      mend_stageable c.args.shape c.args.lost c.args.stripe.now _ c.requires.0 x.result x.ensures c.args.work.now refl,
      mend_table c.args.shape c.args.lost c.args.stripe.now _ c.requires.0 x.result x.ensures _ c.requires.1,
    )

pub agree-requires : goal.agree-requires
agree-requires c =
    let x = c.read-x in (
      mend_patchable c.args.shape c.args.lost c.args.stripe.now _ c.requires.0 x.result x.ensures _ c.stage.ensures.0,
      mend_table c.args.shape c.args.lost c.args.stripe.now _ c.requires.0 x.result x.ensures _ c.requires.1,
      mend_in_order c.args.shape c.args.lost c.args.stripe.now _ c.requires.0 x.result x.ensures,
    )

-- where they do not, nothing is written
pub returns-then-not-agree : goal.returns-then-not-agree
unfolding number refusal_number
returns-then-not-agree c =
    let x = c.read-x in
    let staged = c.stage.ensures in (
      staged.0,
      mend_disagree c.args.shape c.args.lost c.args.stripe.now _ c.requires.0 x.result x.ensures _ staged.1
          (told_no c.agree.ensures (not-true _ c.if-not-agree.true-raw)),
    )

-- where they do, what is staged is put in place
pub commit-requires : goal.commit-requires
commit-requires c =
    let x = c.read-x in (
      mend_stageable c.args.shape c.args.lost c.args.stripe.now _ c.requires.0 x.result x.ensures _ c.stage.ensures.0,
      mend_led c.args.shape c.args.lost c.args.stripe.now _ c.requires.0 x.result x.ensures,
      omega (arith, c.stores.ensures),
    )

-- and the stripe is then the one that solves
pub returns : goal.returns
unfolding number refusal_number
returns c =
    let x = c.read-x in
    let staged = c.stage.ensures in (
      staged.0,
      mend_done c.args.shape c.args.lost c.args.stripe.now _ c.requires.0 x.result x.ensures _ staged.1
          (c.agree.ensures.yes (not-false _ c.if-not-agree.false-raw)) _ (λ i h. omega (arith, c.type_inv.stripe i))
          (rw (sym c.stores.ensures) c.commit.ensures),
    )
