use mathlib.Core.Path.{◌∙◌}
use native.Mathlib.Omega.{arith}
use Rattle.staging.proofs.StagingLaws.{stageable_ready, stageable_like, staged_step}
use Rattle.staging.proofs.staging.stage_pair.Goals as goal

pub solve_first-requires : goal.solve_first-requires
solve_first-requires c =
    let i = c.loop-d.invariant in
    (stageable_ready _ _ _ i.0 0 _ (omega arith) (omega (arith, c.requires.2)) (i.0.two c.requires.2 0), c.requires.1)

pub solve_second-requires : goal.solve_second-requires
solve_second-requires c =
    let i = c.loop-d.invariant in
    let r = stageable_like _ _ _ _ c.solve_first.ensures.0 i.0 in
    (stageable_ready _ _ _ r 1 _ (omega arith) (omega (arith, c.requires.2)) (r.two c.requires.2 1), c.requires.1)

pub loop-d-preserved : goal.loop-d-preserved
loop-d-preserved c =
    let near = c.requires.2 in
    let i = c.loop-d.invariant in
    let f = c.solve_first.ensures in
    let g = c.solve_second.ensures in
    (stageable_like _ _ _ _ (g.0 ∙ f.0) i.0, g.0 ∙ f.0 ∙ i.1, λ v k. staged_step _ v _ _ i.0 _ _ _ (omega (arith, near)) (f.1 v k) (g.1 v k) _ (omega arith) (i.2 v k))
