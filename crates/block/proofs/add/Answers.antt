-- A turn: the byte at k was not changed before it.
use Rattle.std.proofs.Common.{ap, ◌+◌, get_or, bit_xor, arith}
use Rattle.xor.specs.Xor.{◌⊕◌}
use Rattle.block.proofs.Upto.{upto_more}
use Rattle.block.proofs.add.Goals as goal

pub loop-k-preserved : goal.loop-k-preserved
unfolding ◌⊕◌
loop-k-preserved g c =
    let at = c.loop-k in
    let added = get_or c.args.s.now (c.args.at + at.k) 0 in
    upto_more at.invariant _ (ap (λ v. bit_xor v added) (at.invariant.rest at.k (omega arith))) (omega (arith, at.invariant.long))
