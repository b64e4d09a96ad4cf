-- `lines`: a shape that is accepted is good.
use Rattle.shape.proofs.Asked.{done_good}
use Rattle.all_pairs.proofs.lines.Goals as goal

pub line-requires : goal.line-requires
line-requires g c = done_good _ _ c.accept.ensures c.in-Ok.is
