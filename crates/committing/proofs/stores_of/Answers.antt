use mathlib.Core.Path.{sym}
use native.Mathlib.Omega.{arith}
use Rattle.committing.proofs.CommittingLaws.{stores_lost, stores_none}
use Rattle.committing.proofs.stores_of.Goals as goal

-- `stores_of`.
pub returns-then-column-x : goal.returns-then-column-x
returns-then-column-x c = sym (stores_lost _ _ c.if-column-x.true)

pub returns : goal.returns
returns c = sym (stores_none _ _ (omega arith))
