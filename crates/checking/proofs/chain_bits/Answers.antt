use mathlib.Core.Path.{◌≡◌, refl, ap, ◌∙◌}
use native.Mathlib.Omega.{arith}
use Rattle.xor.proofs.TotalLaws.{total_none}
use Rattle.shape.specs.declared.Shape.{Shape}
use Rattle.checking.proofs.Counting.{bits, bits_then}
use Rattle.checking.proofs.chain_bits.Goals as goal

pub loop-left-init : goal.loop-left-init
loop-left-init c =
    let w = ap (λ (sh : Shape). sh.w) c.along-wk.ensures.0 in (omega (arith, w), total_none _, omega arith)

pub loop-left-preserved : goal.loop-left-preserved
loop-left-preserved c =
    let step = c.tally_some-some.ensures in
    (omega arith, bits_then _ _ refl (omega arith) c.loop-left.invariant.1 step.2, omega (arith, step.2.most))

pub tally_some-some-requires-clause-inside : goal.tally_some-some-requires-clause-inside
tally_some-some-requires-clause-inside c = (omega arith, omega arith)

pub returns : goal.returns
returns c =
    let sum = rw (c.along-wk.ensures.0, c.along-wk.ensures.1) at c.loop-left.invariant in
    let e : c.loop-left.from ≡ c.args.stripe.shape.w = omega (arith, sum.0) in
    (sum.1 ∙ ap (bits c.args.stripe.shape c.args.stripe.bytes.now c.args.p) e, omega (arith, e))
