use native.Mathlib.Omega.{arith}
use Rattle.encoding.proofs.SettledLaws.{stretch_then}
use Rattle.encoding.proofs.encode_blocks.Goals as goal

pub loop-from-preserved : goal.loop-from-preserved
loop-from-preserved c =
    (omega arith, omega arith, stretch_then _ c.args.wk.walks.good _ _ _ _ 0 c.loop-from.from _ (omega arith) (omega arith) c.loop-from.invariant.2 c.encode_part-from.ensures.1)
