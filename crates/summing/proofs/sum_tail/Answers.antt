use native.Mathlib.Omega.{arith}
use Rattle.summing.proofs.SumsLaws.{summed_then}
use Rattle.summing.proofs.sum_tail.Goals as goal

pub loop-from-preserved : goal.loop-from-preserved
loop-from-preserved c =
    let part = c.sum_some-from.ensures in
    let at = c.loop-from in
    let a = c.args in
    (omega arith, omega arith, summed_then a.s.now a.list.now a.x a.at a.w c.requires.2 a.out.now at.out _ a.start at.from _ (omega arith) (omega arith) (omega arith) at.invariant.2 part.2)
