-- ONE SYMBOL STORED: of height d in column c of the stripe s, by the bytes of x; s' is the stripe as left. Definitions only.
use Rattle.std.specs.Prelude.{◌≡◌, ◌≢◌, ◌⊎◌, List, ℕ, ◌<◌, length, get_or}
use Rattle.shape.specs.declared.Shape.{Shape}
use Rattle.shape.specs.Place.{byte}

-- that symbol is the new one, and every other byte of the stripe is as it was
pub record Set (sh : Shape) (s : List ℕ) (d c : ℕ) (x s' : List ℕ) : Type 0 where
  pub long : length s' ≡ length s
  pub new : (t : ℕ) → t < sh.w → byte sh s' t d c ≡ get_or x t 0
  pub rest : (e j t : ℕ) → e < sh.m → j < sh.n → t < sh.w → (e ≢ d) ⊎ (j ≢ c) → byte sh s' t e j ≡ byte sh s t e j
