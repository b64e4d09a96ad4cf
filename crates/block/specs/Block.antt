-- A BLOCK: bytes that are worked on at a time. Definitions only.
use Rattle.std.specs.Prelude.{◌≡◌, List, ℕ, ◌<◌, length, get_or}

-- a block of `long` bytes, of which the first len are f 0, f 1, ..
pub record Block (f : ℕ → ℕ) (len long : ℕ) (ys : List ℕ) : Type 0 where
  pub whole : length ys ≡ long
  pub at : (t : ℕ) → t < len → get_or ys t 0 ≡ f t
