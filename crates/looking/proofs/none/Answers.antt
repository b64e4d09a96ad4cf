use Rattle.looking.proofs.Seen.{seen_more}
use Rattle.looking.proofs.none.Goals as goal

pub loop-k-preserved : goal.loop-k-preserved
loop-k-preserved g c = seen_more c.loop-k.invariant
