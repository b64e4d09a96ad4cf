-- THE LOSSES READ (document 01, "outer-chain order"): first, second, the walk between them, and where they are staged. Definitions only.
use Rattle.std.specs.Prelude.{◌≡◌, ◌<◌}
use Rattle.shape.specs.declared.Shape.{Shape}
use Rattle.shape.specs.Place.{column_length}
use Rattle.rule.specs.declared.Losses.{Losses}
use Rattle.rule.specs.Outer.{reading}
use Rattle.solving.specs.declared.Gone.{Gone}

-- g is the reading of the losses: first's column at the start of the workspace, and second's behind it
pub record Read (sh : Shape) (lost : Losses) (g : Gone) : Type 0 where
  pub shape_is : g.shape ≡ sh
  pub first_is : g.first ≡ (reading sh.m sh.n lost).0
  pub second_is : g.second ≡ (reading sh.m sh.n lost).1
  pub walk_is : g.walk ≡ (reading sh.m sh.n lost).2
  pub one_is : g.one ≡ 0
  pub two_is : g.two ≡ column_length sh

-- second is lost only where first is
abbrev pub Led : Gone → Type 0
Led g = g.second < g.shape.n → g.first < g.shape.n
