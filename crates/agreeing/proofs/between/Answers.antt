use mathlib.Core.Path.{◌≡◌, ap, sym, ◌∙◌}
use Prim.Native.Nat.{ℕ, ◌+◌, ◌-◌, ◌≤◌, ◌<◌}
use native.Mathlib.Omega.{arith}
use borrow.Author.Tests.{not-true, not-false}
use Rattle.xor.proofs.TellsLaws.{tells_false, told_no}
use Rattle.shape.specs.Step.{right}
use Rattle.shape.proofs.StepLaws.{right_zero, right_reach}
use Rattle.agreeing.specs.Agreeing.{Holds}
use Rattle.agreeing.proofs.AgreeingLaws.{same_distance}
use Rattle.standing.proofs.Stretch.{right_on, so_far}
use Rattle.agreeing.proofs.between.Goals as goal

-- the next chain is e up from first
next-is : (n f p e q : ℕ) → 1 ≤ e → p ≡ right n f (e - 1) → q ≡ right n p 1 → q ≡ right n f e
next-is n f p e q lo ep eq = let z : e - 1 + 1 ≡ e = omega arith in eq ∙ ap (λ (c : ℕ). right n c 1) ep ∙ right_on n f (e - 1) 1 ∙ ap (right n f) z

pub loop-e-init : goal.loop-e-init
loop-e-init c =
    (c.requires.2, sym (right_zero c.args.x.shape.n c.args.x.first c.requires.2), λ d hi lo. absurd (omega arith))

pub holds-requires : goal.holds-requires
holds-requires c =
    let x = c.args.x in
    let l = c.loop-e in
    let up = c.above-p.ensures in
    let he : l.e < x.shape.n = omega (arith, c.requires.3) in
    let q = next-is x.shape.n x.first l.p l.e _ (omega arith) l.invariant.1 up.is in (
      c.requires.0,
      up.below,
      rw (sym q) at (c.requires.4 l.e (omega arith) (omega arith)),
      c.requires.1,
      sym (same_distance x.shape x.first _ l.e c.requires.2 up.below he (rw (sym q) at (right_reach x.shape.n x.first l.e c.requires.2 he))),
    )

pub returns-then-not-holds : goal.returns-then-not-holds
returns-then-not-holds c =
    let x = c.args.x in
    let l = c.loop-e in
    let q = next-is x.shape.n x.first l.p l.e _ (omega arith) l.invariant.1 c.above-p.ensures.is in
    tells_false (λ all. told_no c.holds.ensures (not-true _ c.if-not-holds.true-raw) (rw q (all l.e (omega arith) (omega arith))))

pub loop-e-preserved : goal.loop-e-preserved
loop-e-preserved c =
    let a = c.args in
    let x = a.x in
    let l = c.loop-e in
    let up = c.above-p.ensures in
    let q = next-is x.shape.n x.first l.p l.e _ (omega arith) l.invariant.1 up.is in
    let back : l.e ≡ l.e + 1 - 1 = omega arith in
    let here = c.holds.ensures.yes (not-false _ c.if-not-holds.false-raw) in (
      up.below,
      q ∙ ap (right x.shape.n x.first) back,
      so_far (λ (d : ℕ). 1 ≤ d → Holds x a.s.now a.out.now (right x.shape.n x.first d)) l.e l.invariant.2 (λ lo. rw q at here),
    )
