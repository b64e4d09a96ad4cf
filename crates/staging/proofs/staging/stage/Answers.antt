-- `stage`: what is solved alone does not meet.
use mathlib.Core.Path.{◌∙◌}
use Rattle.staging.proofs.StagingLaws.{staged_alone}
use Rattle.staging.proofs.staging.stage.Goals as goal

pub returns-else-x : goal.returns-else-x
returns-else-x c =
    let one = c.alone_if_lost.ensures in
    let two = c.alone_if_lost-else-x.ensures in
    (two.0 ∙ one.0, λ v k. staged_alone _ _ _ c.requires.0 v _ _ (one.1 v k) (two.1 v k))
