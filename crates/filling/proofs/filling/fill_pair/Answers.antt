use mathlib.Core.Path.{◌∙◌}
use native.Mathlib.Omega.{arith}
use Rattle.filling.proofs.FillingLaws.{fillable_ready, fillable_like, stand_step, stores_rest}
use Rattle.filling.proofs.filling.fill_pair.Goals as goal

pub solve-requires : goal.solve-requires
solve-requires c =
    let i = c.loop-d.invariant in
    (fillable_ready _ _ _ _ i.0 _ (omega arith), c.requires.1)

pub loop-d-preserved : goal.loop-d-preserved
loop-d-preserved c =
    let f = c.solve.ensures in
    let i = c.loop-d.invariant in (
      fillable_like _ _ _ _ _ f.0 i.0,
      omega arith,
      f.0 ∙ i.2,
      λ v k. (
        stand_step _ _ _ _ i.0 v _ _ (omega arith) (f.1 v k) _ (omega arith) (i.3 v k).0,
        λ j lo. stores_rest _ _ _ _ i.0 v _ _ (omega arith) (f.1 v k) j lo ∙ (i.3 v k).1 j lo,
      ),
    )
