-- CHOOSE (document 01, "Column read"): the part that it hands back. Definitions only.
use Rattle.std.specs.Prelude.{◌≡◌, List, [], ℕ, length, take}
use Rattle.shape.specs.declared.Shape.{Shape}
use Rattle.shape.specs.Place.{column_length, column}
use Rattle.answer.specs.Outcome.{Unnumbered}
use Rattle.rule.specs.declared.Losses.{Losses}
use Rattle.rule.specs.Losses.{Lost}
use Rattle.filling.specs.Fill.{fill_table}

-- "Choose then hands back the column from the stripe if it survives, or else the first m·w bytes of the answer buffer"
pub record Chosen (sh : Shape) (s : List ℕ) (lost : Losses) (wanted : ℕ) (buffer part : List ℕ) : Type 0 where
  pub survives : ¬ Lost lost wanted → part ≡ column sh s wanted
  pub gone : Lost lost wanted → part ≡ take (column_length sh) buffer

-- "Choose answers with that part alone and carries no number; the part has length 0 exactly when fill, called with the same arguments, would be
-- refused": it goes by fill's table. (That a part that is handed back is never empty: `ChooseEmpty`.)
abbrev pub Choose : Shape → List ℕ → Losses → ℕ → List ℕ → List ℕ → Type 0
Choose sh s lost wanted buffer part = Unnumbered (fill_table sh s lost wanted (length buffer)) [] (Chosen sh s lost wanted buffer) part
