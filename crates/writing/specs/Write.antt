-- SMALL WRITE (document 01): row r of column c of the stripe s becomes the symbol x; s' is the stripe as left. Definitions only.
use Rattle.std.specs.Prelude.{◌≡◌, ◌≢◌, ◌⊎◌, List, [], ◌∷◌, ◌++◌, ℕ, ◌-◌, ◌≤◌, ◌<◌, length, get_or}
use Rattle.shape.specs.declared.Shape.{Shape}
use Rattle.answer.specs.Answers.{Answer}
use Rattle.shape.specs.Place.{height, byte}
use Rattle.answer.specs.Answers.{number, Table}
use Rattle.shape.specs.Refusals.{stripe_table}
use Rattle.answer.specs.Outcome.{Outcome}
use Rattle.rule.specs.Rule.{differs}

-- 6: "a column is n or more, or a written row is not an information row" (those are 0 to m-2). 8: "symbol length is not w".
unfoldable pub write_table : Shape → List ℕ → ℕ → ℕ → List ℕ → Table
write_table sh s c r x = stripe_table sh s ++ ((6, (sh.n ≤ c) ⊎ (sh.m - 1 ≤ r)) ∷ (8, length x ≢ sh.w) ∷ [])

-- "Small write replaces one information symbol and XORs the change into its two parity symbols. Each chain that was broken stays broken
-- by the same bytes." (The first sentence's second half follows: `TwoParities`.)
pub record Written (sh : Shape) (s : List ℕ) (c r : ℕ) (x s' : List ℕ) : Type 0 where
  pub long : length s' ≡ length s
  pub new : (t : ℕ) → t < sh.w → byte sh s' t (height sh r) c ≡ get_or x t 0
  pub information : (d j t : ℕ) → 1 ≤ d → d < sh.m → j < sh.n → t < sh.w → (d ≢ height sh r) ⊎ (j ≢ c) → byte sh s' t d j ≡ byte sh s t d j
  pub chains : (p t : ℕ) → p < sh.n → t < sh.w → differs sh s' p t ≡ differs sh s p t

abbrev pub SmallWrite : Shape → List ℕ → ℕ → ℕ → List ℕ → Answer → List ℕ → Type 0
SmallWrite sh s c r x a s' = Outcome (write_table sh s c r x) s (Written sh s c r x) (number a) s'
