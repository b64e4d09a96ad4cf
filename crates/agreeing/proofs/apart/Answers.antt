use mathlib.Core.Path.{sym, ◌∙◌}
use mathlib.Core.Logic.{inl, inr}
use native.Mathlib.Omega.{arith}
use Rattle.rule.proofs.OrderLaws.{walk_left}
use Rattle.agreeing.proofs.ChangedLaws.{distance_of, distance_none}
use Rattle.agreeing.proofs.apart.Goals as goal

-- `apart`: a step to the left leads back from b to a.
pub returns-then-sh-a : goal.returns-then-sh-a
returns-then-sh-a c = let a = c.args in sym (distance_none a.sh a.a a.b (inl (omega arith)))

pub returns-then-sh-b : goal.returns-then-sh-b
returns-then-sh-b c = let a = c.args in sym (distance_none a.sh a.a a.b (inr (omega arith)))

pub returns : goal.returns
returns c =
    let a = c.args in
    c.below.ensures.is ∙ walk_left a.sh.n a.a a.b ∙ sym (distance_of a.sh a.a a.b (omega arith) (omega arith))
