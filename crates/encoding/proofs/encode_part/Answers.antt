-- `encode_part`: the block of the others is stored where the parity symbol's bytes stand.
use mathlib.Core.Path.{refl, ap, ◌∙◌}
use Prim.Native.Nat.{ℕ, ◌+◌}
use native.Mathlib.Omega.{arith}
use Rattle.xor.proofs.Span.{span_same}
use Rattle.shape.specs.Place.{byte, place}
use Rattle.rule.specs.Rule.{others}
use Rattle.shape.proofs.Spans.{place_add}
use Rattle.encoding.proofs.SettledLaws.{settled_span}
use Rattle.encoding.proofs.encode_part.Goals as goal

pub returns : goal.returns
returns g c =
    let wk = c.args.wk in
    let sh = wk.shape in
    let p = wk.p in
    let from = c.args.from in
    let lent = c.args.stripe.now in (
      refl,
      settled_span sh c.requires.part.good lent _ p from c.args.len wk.walks.near.here c.requires.part.inside
          (span_same (λ t. others sh.m sh.n (byte sh lent (from + t)) p) c.put.ensures
          (ap (λ (a : ℕ). a + from) wk.walks.at_is.at ∙ place_add sh 0 p 0 from ∙ ap (place sh 0 p) (omega arith)) (λ t h. c.others-acc.ensures.at t h)),
    )
