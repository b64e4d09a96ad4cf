-- `holds`: a chain that has a staged symbol, or one that is as the stripe has it.
use native.Mathlib.Omega.{arith}
use borrow.Author.Tests.{ltb-false}
use Rattle.agreeing.proofs.AgreeingLaws.{even_tells}
use Rattle.agreeing.proofs.holds.Goals as goal

pub returns : goal.returns
returns c =
    let a = c.args in
    let h = c.apart-h in
    even_tells a.x c.requires.0.good a.p c.requires.1 c.requires.2 a.s.now a.out.now c.requires.0 _
    (omega (arith, c.requires.4, c.if-d-shape.false)) (omega (arith, h.ensures, ltb-false h.result a.x.shape.m c.if-h-shape.false-raw)) c.all_even.ensures
