-- THE PART THAT CHOOSE HANDS BACK, AND FROM WHERE (document 01): "as the caller's own bytes, never as a copy". Definitions only.
use Rattle.std.specs.Prelude.{◌≢◌, List, ℕ, ◌*◌, length}
use Rattle.std.specs.Borrow.{Bor}
use Rattle.shape.specs.declared.Shape.{Shape}
use Rattle.shape.specs.Place.{column_length}
use Rattle.shape.specs.Own.{PartOf}
use Rattle.rule.specs.declared.Losses.{Losses}
use Rattle.rule.specs.Losses.{Lost}
use Rattle.filling.specs.Choose.{Choose}

-- the part r is what choose is to hand back: "the column from the stripe if it survives", which lies in it from wanted·m·w on, "or else the first m·w
-- bytes of the answer buffer", which lie at its start
pub record HandedBack (sh : Shape) (s : Bor (List ℕ)) (lost : Losses) (wanted : ℕ) (buffer r : Bor (List ℕ)) : Type 0 where
  pub read : Choose sh s.now lost wanted buffer.now r.now
  pub survives : length r.now ≢ 0 → ¬ Lost lost wanted → PartOf s r (wanted * column_length sh)
  pub gone : length r.now ≢ 0 → Lost lost wanted → PartOf buffer r 0
