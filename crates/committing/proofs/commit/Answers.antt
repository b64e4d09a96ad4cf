use mathlib.Core.Path.{refl}
use Rattle.committing.specs.Committing.{Made}
use Rattle.committing.proofs.CommittingLaws.{made_next}
use Rattle.committing.proofs.commit.Goals as goal

pub loop-k-init : goal.loop-k-init
unfolding Made
loop-k-init c = refl

pub loop-k-preserved : goal.loop-k-preserved
loop-k-preserved c = made_next _ _ _ _ _ _ c.loop-k.invariant c.store_one.ensures
