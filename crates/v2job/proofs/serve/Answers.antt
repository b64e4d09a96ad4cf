use mathlib.Core.Path.{refl}
use Rattle.v2job.proofs.serve.Goals as goal

pub loop-init : goal.loop-init
loop-init c = let asked = c.requires in (c.begin-run.ensures.by_index _ _ asked.0 asked.1, refl, refl, refl, refl)
