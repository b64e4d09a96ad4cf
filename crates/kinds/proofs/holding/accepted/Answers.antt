-- `accepted`: a shape is good exactly where `accept` answers Ok.
use Rattle.kinds.proofs.HoldingLaws.{accepts, accepted_from}
use borrow.Author.Rules.{rules}
use Rattle.kinds.proofs.holding.accepted.Goals as goal

pub returns : goal.returns
returns c = accepted_from _ (λ sh b k. search (rules, accepts)) _ _ c.filter.ensures
