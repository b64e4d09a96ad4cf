-- `agree`: none is lost and every chain is tested as it stands, or those between the lost columns are tested and those beyond them.
use native.Mathlib.Omega.{arith}
use borrow.Author.Tests.{not-true, not-false}
use Rattle.xor.proofs.TellsLaws.{tells_false, told_no}
use Rattle.agreeing.proofs.StretchLaws.{ends, between_free, agreed_tells, agreed_not, agreed_none}
use Rattle.agreeing.proofs.agree.Goals as goal

pub returns-then-shape-x : goal.returns-then-shape-x
returns-then-shape-x c =
    let a = c.args in
    agreed_none a.x a.s.now a.out.now c.requires.0 c.requires.2 (omega arith) _ c.all_even.ensures

pub between-requires : goal.between-requires
between-requires c =
    let x = c.args.x in (
      c.requires.0,
      c.requires.1,
      omega arith,
      omega (arith, (ends x c.requires.0.good c.requires.2 (omega arith) _ c.apart-end.ensures).0),
      between_free x c.requires.0.good c.requires.2 (omega arith) _ c.apart-end.ensures,
    )

pub returns-then-not-between : goal.returns-then-not-between
returns-then-not-between c =
    let a = c.args in
    tells_false (agreed_not a.x c.requires.0.good c.requires.2 (omega arith) _ c.apart-end.ensures a.s.now a.out.now c.requires.0
    (told_no c.between.ensures (not-true _ c.if-not-between.true-raw)))

pub beyond-from-requires : goal.beyond-from-requires
beyond-from-requires c =
    let good = c.requires.0.good in
    (good.m_fits.1, omega (arith, good.n_fits.1, (ends c.args.x good c.requires.2 (omega arith) _ c.apart-end.ensures).0))

pub above-start-requires : goal.above-start-requires
above-start-requires c =
    let good = c.requires.0.good in
    (omega arith, omega (arith, c.beyond-from.ensures, good.m_fits.0, (ends c.args.x good c.requires.2 (omega arith) _ c.apart-end.ensures).1), good.n_fits.1)

pub overflow_sub-shape-2 : goal.overflow_sub-shape-2
overflow_sub-shape-2 c =
    omega (arith, c.beyond-from.ensures, (ends c.args.x c.requires.0.good c.requires.2 (omega arith) _ c.apart-end.ensures).1)

pub returns : goal.returns
returns c =
    let a = c.args in
    agreed_tells a.x c.requires.0.good c.requires.2 (omega arith) _ c.apart-end.ensures a.s.now a.out.now c.requires.0 _ _
    c.beyond-from.ensures c.above-start.ensures.is _
    (c.between.ensures.yes (not-false _ c.if-not-between.false-raw)) c.all_even-2.ensures
