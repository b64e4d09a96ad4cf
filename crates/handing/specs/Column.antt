-- A COLUMN HANDED OUT (document 01). Definitions only.
use Rattle.std.specs.Prelude.{◌≡◌, List, [], ◌∷◌, ◌++◌, ℕ, ◌≤◌}
use Rattle.shape.specs.declared.Shape.{Shape}
use Rattle.shape.specs.Place.{column}
use Rattle.answer.specs.Answers.{Table}
use Rattle.shape.specs.Refusals.{stripe_table}
use Rattle.answer.specs.Outcome.{Unnumbered}

-- 6: "a column is n or more"
unfoldable pub column_table : Shape → List ℕ → ℕ → Table
column_table sh s c = stripe_table sh s ++ ((6, sh.n ≤ c) ∷ [])

-- "A column is handed out as the caller's own bytes; a refused request yields a part of length 0."
abbrev pub ColumnRead : Shape → List ℕ → ℕ → List ℕ → Type 0
ColumnRead sh s c part = Unnumbered (column_table sh s c) [] (λ (x : List ℕ). x ≡ column sh s c) part
