-- `one_column`: check and locate have one result each, and P9 is it.
use Rattle.demands.proofs.Five.{counts₅, find₉}
use Rattle.by_hand.proofs.Told.{check_told, locate_told}
use Rattle.by_hand.proofs.one_column.Goals as goal

pub expect-requires : goal.expect-requires
expect-requires g c = c.counts.ensures.no (check_told _ _ _ 2 2 _ c.five.ensures c.cleared-stripe.ensures counts₅.0 c.check.ensures)

pub expect-requires-2 : goal.expect-requires-2
expect-requires-2 g c = c.names.ensures.no (locate_told _ _ _ _ _ c.five-2.ensures c.cleared-stripe.ensures find₉ c.locate.ensures)
