-- THE REFUSALS OF A SHAPE AND OF A STRIPE (document 01, "Refusal numbers"). Definitions only.
use Rattle.std.specs.Prelude.{◌≢◌, ◌⊎◌, List, [], ◌∷◌, ◌++◌, ℕ, ◌<◌, length}
use Rattle.answer.specs.Answers.{Table}
use Rattle.shape.specs.declared.Shape.{Shape}
use Rattle.shape.specs.Good.{Outside, rows, columns, symbol, most, size}

-- 1: "m outside its range". 2: "n outside its range". 3: "w outside its range, or m·n·w over 65,536".
unfoldable pub shape_table : Shape → Table
shape_table sh =
    (1, Outside rows sh.m)
    ∷ (2, Outside (columns sh.m) sh.n)
    ∷ (3, Outside symbol sh.w ⊎ (most < size sh))
    ∷ []

-- and 4: "stripe length is not m·n·w"
unfoldable pub stripe_table : Shape → List ℕ → Table
stripe_table sh s = shape_table sh ++ ((4, length s ≢ size sh) ∷ [])
