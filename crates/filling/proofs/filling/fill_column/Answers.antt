-- `fill_column`.
use Rattle.filling.proofs.FillingLaws.{column_alone}
use Rattle.filling.proofs.filling.fill_column.Goals as goal

pub returns-else-x : goal.returns-else-x
returns-else-x c =
    let f = c.solve_alone.ensures in
    (f.0, λ v k. column_alone _ _ _ _ c.requires v _ (f.1 v k))
