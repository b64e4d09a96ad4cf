use native.Mathlib.Omega.{arith}
use lib.Count.{ones}
use lib.ListN.{get_or}
use Rattle.xor.proofs.TotalLaws.{total_none, total_more}
use Rattle.looking.proofs.count.Goals as goal

pub loop-k-init : goal.loop-k-init
loop-k-init g c = (total_none _, omega arith)

pub loop-k-preserved : goal.loop-k-preserved
loop-k-preserved g c =
    let at = c.loop-k in
    (total_more (λ t. ones (get_or c.args.acc.now t 0)) at.k at.invariant.0 c.bits-sum.ensures.0, omega arith)
