use mathlib.Core.Path.{refl}
use mathlib.Core.Logic.{inl, inr}
use native.Mathlib.Omega.{arith}
use borrow.Author.Count.{below_more}
use Rattle.locating.specs.Locate.{found}
use Rattle.xor.proofs.TellsLaws.{told_no}
use Rattle.locating.proofs.LocatingLaws.{explains_within, within_explains}
use Rattle.locating.proofs.search.Goals as goal

pub columns-preserved-then-not-within : goal.columns-preserved-then-not-within
columns-preserved-then-not-within c =
    let at = c.columns in (
      omega arith,
      below_more _ _ at.invariant.1
          (λ ex. told_no c.within.ensures c.if-not-within.true (explains_within c.args.stripe.shape c.args.stripe.bytes.now c.args.bits.now c.requires at.next ex)),
    )

pub returns-then-stripe-next : goal.returns-then-stripe-next
unfolding found
returns-then-stripe-next c = inr (refl, λ k l. c.columns.invariant.1 k (omega arith))

pub returns-after-loop-d : goal.returns-after-loop-d
unfolding found
returns-after-loop-d c =
    let height = c.loop-d in
    let at = c.columns in
    inl (
      refl,
      omega arith,
      within_explains c.args.stripe.shape c.args.stripe.bytes.now c.args.bits.now c.requires at.next
          (c.within.ensures.yes c.if-not-within.false) (λ d lo hd. height.invariant d (omega arith) lo),
    )
