use Rattle.std.proofs.Common.{refl, ℕ, arith}
use Rattle.std.proofs.lemmas.List.{length-replicate}
use Rattle.xor.specs.Xor.{◌⊕◌}
use Rattle.block.proofs.Upto.{upto_more}
use Rattle.block.proofs.both.Goals as goal

pub loop-k-preserved : goal.loop-k-preserved
unfolding ◌⊕◌
loop-k-preserved g c = upto_more c.loop-k.invariant _ refl (omega (arith, c.loop-k.invariant.long, length-replicate {A = ℕ} g.row.LEN 0))
