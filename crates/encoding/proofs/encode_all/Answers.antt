use mathlib.Core.Path.{◌≡◌}
use native.Mathlib.Omega.{arith}
use Rattle.encoding.proofs.SettledLaws.{column_then, settled_all}
use Rattle.encoding.proofs.encode_all.Goals as goal

pub loop-p-preserved : goal.loop-p-preserved
loop-p-preserved c = column_then _ c.requires.0 _ _ _ c.loop-p.p c.loop-p.invariant c.encode_chain.ensures

pub returns : goal.returns
returns c =
    let e : c.loop-p.p ≡ c.args.sh.n = omega arith in
    settled_all _ c.requires.0 _ _ (rw e at c.loop-p.invariant)
