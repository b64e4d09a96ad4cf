-- FILL (document 01, "Column read"): the column `wanted` of the stripe s into an answer buffer; buffer' is the buffer as left. Definitions only.
use Rattle.std.specs.Prelude.{◌≡◌, ◌⊎◌, List, [], ◌∷◌, ◌++◌, ℕ, ◌≤◌, ◌<◌, length, get_or}
use Rattle.shape.specs.declared.Shape.{Shape}
use Rattle.answer.specs.Answers.{Answer}
use Rattle.shape.specs.Place.{column_length, place, byte}
use Rattle.answer.specs.Answers.{number, Table}
use Rattle.shape.specs.Refusals.{stripe_table}
use Rattle.answer.specs.Outcome.{Outcome}
use Rattle.rule.specs.declared.Losses.{Losses}
use Rattle.rule.specs.Losses.{Lost, Beyond, Twice}
use Rattle.rule.specs.Outer.{Outer}

-- 6: "a column is n or more", one named lost or the one wanted. 7: "both lost columns are the same".
-- 8: "fill's or choose's buffer under m·w, also when the column survives".
unfoldable pub fill_table : Shape → List ℕ → Losses → ℕ → ℕ → Table
fill_table sh s lost wanted room =
    stripe_table sh s
    ++ ((6, Beyond sh.n lost ⊎ (sh.n ≤ wanted))
    ∷ (7, Twice lost)
    ∷ (8, room < column_length sh)
    ∷ [])

-- "Fill puts a lost column into the first m·w bytes of an answer buffer; the rest of that buffer is untouched." Its bytes stand there as in
-- column 0 of a stripe, and are those of the stripe x, s with its lost columns solved in the outer-chain order.
pub record Filled (sh : Shape) (s : List ℕ) (lost : Losses) (wanted : ℕ) (buffer buffer' : List ℕ) : Type 0 where
  pub x : List ℕ
  pub outer : Outer sh lost s x
  pub long : length buffer' ≡ length buffer
  pub front : (d t : ℕ) → d < sh.m → t < sh.w → get_or buffer' (place sh d 0 t) 0 ≡ byte sh x t d wanted
  pub rest : (i : ℕ) → column_length sh ≤ i → i < length buffer → get_or buffer' i 0 ≡ get_or buffer i 0

-- "the rest of that buffer, and all of it when the column survives, is untouched"
pub record Fills (sh : Shape) (s : List ℕ) (lost : Losses) (wanted : ℕ) (buffer buffer' : List ℕ) : Type 0 where
  pub gone : Lost lost wanted → Filled sh s lost wanted buffer buffer'
  pub survives : ¬ Lost lost wanted → buffer' ≡ buffer

abbrev pub Fill : Shape → List ℕ → Losses → ℕ → List ℕ → Answer → List ℕ → Type 0
Fill sh s lost wanted buffer a buffer' =
    Outcome (fill_table sh s lost wanted (length buffer)) buffer (Fills sh s lost wanted buffer) (number a) buffer'
