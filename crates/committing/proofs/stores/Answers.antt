-- `stores`.
use native.Mathlib.Omega.{arith}
use borrow.Author.Rules.{rules}
use Rattle.committing.specs.Committing.{stores_in_all}
use Rattle.committing.proofs.CommittingLaws.{stores_le}
use Rattle.committing.proofs.stores.Goals as goal

pub overflow_add-result : goal.overflow_add-result
overflow_add-result c =
    let x = c.args.x in
    omega (arith, stores_le x x.first, stores_le x x.second, c.requires.m_fits)

pub returns : goal.returns
unfolding stores_in_all
returns c = search rules
