-- `even_part`: a block of the others beside the parity symbol.
use Rattle.standing.proofs.StandingLaws.{even_block}
use Rattle.standing.proofs.even_part.Goals as goal

pub returns : goal.returns
returns g c =
    let a = c.args in
    even_block a.wk.shape a.s.now a.wk.p a.wk.at a.from a.len _ a.wk.walks.at_is.at c.others-acc.ensures _ c.same.ensures
