-- `encode_chain`: the whole blocks, then the tail after them.
use mathlib.Core.Path.{ap}
use native.Mathlib.Omega.{arith}
use Rattle.shape.specs.declared.Shape.{Shape}
use Rattle.encoding.proofs.SettledLaws.{stretch_then}
use Rattle.encoding.proofs.encode_chain.Goals as goal

pub returns : goal.returns
returns c =
    let w = ap (λ (sh : Shape). sh.w) c.along-wk.ensures.0 in
    rw (c.along-wk.ensures.0, c.along-wk.ensures.1) at (stretch_then _ c.along-wk.result.walks.good _ _ _ _ 0 _ _ (omega arith) (omega (arith, w)) c.encode_blocks.ensures c.encode_tail.ensures)
