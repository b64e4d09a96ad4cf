-- `own`: the list of the chain, the sources, then their sum.
use Rattle.solving.proofs.OwnLaws.{own_clear}
use Rattle.solving.proofs.outer.own.Goals as goal

pub sum_symbol-requires : goal.sum_symbol-requires
sum_symbol-requires c =
    let a = c.args in
    let from = c.sources-from in (
      from.ensures.fits a.s.now a.out.now c.requires.1 (λ z. ((c.requires.8 z).0, (c.requires.8 z).1)),
      c.requires.7,
      own_clear a.sh a.p a.side a.d a.h a.b from.new.list from.result from.ensures a.at (λ z. (c.requires.8 z).2),
    )
