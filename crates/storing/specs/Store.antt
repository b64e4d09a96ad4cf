-- RAW STORE (document 01): row r of column c of the stripe s becomes the symbol x; s' is the stripe as left. Definitions only.
use Rattle.std.specs.Prelude.{◌≡◌, ◌≢◌, ◌⊎◌, List, [], ◌∷◌, ◌++◌, ℕ, ◌≤◌, ◌<◌, length, get_or}
use Rattle.shape.specs.declared.Shape.{Shape}
use Rattle.answer.specs.Answers.{Answer}
use Rattle.shape.specs.Place.{height, byte}
use Rattle.answer.specs.Answers.{number, Table}
use Rattle.shape.specs.Refusals.{stripe_table}
use Rattle.answer.specs.Outcome.{Outcome}

-- 6: "a column is n or more" ("raw: row is m or more"). 8: "symbol length is not w".
unfoldable pub store_table : Shape → List ℕ → ℕ → ℕ → List ℕ → Table
store_table sh s c r x = stripe_table sh s ++ ((6, (sh.n ≤ c) ⊎ (sh.m ≤ r)) ∷ (8, length x ≢ sh.w) ∷ [])

-- "Raw store replaces one symbol of any row and touches nothing else."
pub record Stored (sh : Shape) (s : List ℕ) (c r : ℕ) (x s' : List ℕ) : Type 0 where
  pub long : length s' ≡ length s
  pub new : (t : ℕ) → t < sh.w → byte sh s' t (height sh r) c ≡ get_or x t 0
  pub rest : (d j t : ℕ) → d < sh.m → j < sh.n → t < sh.w → (d ≢ height sh r) ⊎ (j ≢ c) → byte sh s' t d j ≡ byte sh s t d j

abbrev pub RawStore : Shape → List ℕ → ℕ → ℕ → List ℕ → Answer → List ℕ → Type 0
RawStore sh s c r x a s' = Outcome (store_table sh s c r x) s (Stored sh s c r x) (number a) s'
