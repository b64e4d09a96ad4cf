use native.Mathlib.Omega.{arith}
use Rattle.summing.proofs.SumsLaws.{summed_then}
use Rattle.summing.proofs.sum_blocks.Goals as goal

pub loop-from-preserved : goal.loop-from-preserved
loop-from-preserved c =
    let part = c.sum_part-from.ensures in
    let at = c.loop-from in
    let a = c.args in
    (omega arith, omega arith, summed_then a.s.now a.list.now a.x a.at a.whole c.requires.2 a.out.now at.out _ 0 at.from _ (omega arith) (omega arith) (omega arith) at.invariant.2 part.1)
