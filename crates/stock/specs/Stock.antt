-- STOCK SHAPES (document 01). Definitions only.
use Rattle.std.specs.Prelude.{◌≡◌, List, [], ◌∷◌, ℕ, ◌<◌, get_or, Result, Ok, Err}
use Rattle.shape.specs.declared.Shape.{Shape}
use Rattle.shape.specs.Good.{shape}
use Rattle.answer.specs.declared.Refusal.{Refusal}
use Rattle.answer.specs.Answers.{number, Table}
use Rattle.answer.specs.Outcome.{Outcome}

-- "Stock shapes, numbers 0 to 9, as (m, n, w)"
unfoldable pub stock : List Shape
stock =
    shape 2 5 512 ∷ shape 2 12 512 ∷ shape 3 9 512 ∷ shape 3 16 1024 ∷ shape 4 13 512
    ∷ shape 4 16 1024 ∷ shape 6 21 256 ∷ shape 8 29 256 ∷ shape 12 45 64 ∷ shape 16 61 64 ∷ []

-- 10: "stock number over 9"
unfoldable pub stock_table : ℕ → Table
stock_table i = (10, 9 < i) ∷ []

abbrev pub zero_shape : Shape
zero_shape = shape 0 0 0

-- the shape that is given; its numbers are 0 where the call is refused
abbrev pub shape_given : Result Shape Refusal → Shape
shape_given (Ok sh) = sh
shape_given (Err refusal) = zero_shape

abbrev pub Stock : ℕ → Result Shape Refusal → Type 0
Stock i r = Outcome (stock_table i) zero_shape (λ (x : Shape). x ≡ get_or stock i zero_shape) (number r) (shape_given r)
