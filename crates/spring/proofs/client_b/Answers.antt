-- `client_b`: what was encoded obeys the rule and agrees with the survivors, so it is what comes back.
use mathlib.Core.Path.{◌∙◌}
use native.Mathlib.Omega.{arith}
use Rattle.std.proofs.Common.{rules}
use Rattle.std.proofs.lemmas.Slice.Eq.{bytes_eq-Decides}
use Rattle.spring.proofs.Told.{back_told}
use Rattle.spring.proofs.client_b.Goals as goal

pub expect-requires : goal.expect-requires
expect-requires g c =
    let p = c.requires in
    c.eq-same.ensures ∙ (bytes_eq-Decides _ _).1
    (back_told c.as_alone.ensures.1 (omega (arith, p)) (omega (arith, c.lose.auto, p)) (omega (arith, c.encoded.auto, p))
    (λ i h. search rules) (λ good len. c.encoded.ensures good (omega (arith, c.encoded.auto))) c.lose.ensures)
