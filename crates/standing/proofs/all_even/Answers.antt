use mathlib.Core.Path.{ap, sym, ◌∙◌}
use Prim.Native.Nat.{ℕ}
use native.Mathlib.Omega.{arith}
use borrow.Author.Rules.{rules}
use Rattle.shape.specs.Step.{right}
use Rattle.shape.proofs.StepLaws.{right_zero}
use Rattle.standing.specs.Standing.{Even}
use Rattle.standing.proofs.Stretch.{right_on, so_far}
use Rattle.standing.proofs.all_even.Goals as goal

pub loop-i-init : goal.loop-i-init
loop-i-init c = (c.requires.0, sym (right_zero c.args.stripe.shape.n c.args.start c.requires.0), λ j h. absurd (omega arith))

pub loop-i-preserved : goal.loop-i-preserved
loop-i-preserved c =
    let a = c.args in
    let l = c.loop-i in
    let up = c.above-p.ensures in
    let sh = a.stripe.shape in
    let s = a.stripe.bytes.now in
    let here : Even sh s l.p 0 sh.w = c.even.ensures.yes (search rules) in (
      up.below,
      up.is ∙ ap (λ (q : ℕ). right sh.n q 1) l.invariant.1 ∙ right_on sh.n a.start l.i 1,
      so_far (λ (j : ℕ). Even sh s (right sh.n a.start j) 0 sh.w) l.i l.invariant.2 (rw l.invariant.1 at here),
    )
