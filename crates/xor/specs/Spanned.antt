-- BYTES BY THEIR PLACE: what a kernel leaves in a slice. Definitions only.
use Rattle.std.specs.Prelude.{◌≡◌, ◌⊎◌, List, ℕ, ◌+◌, ◌≤◌, ◌<◌, length, get_or}
use Rattle.xor.specs.Xor.{◌⊕◌}

-- ys is xs with f 0, f 1, .. f (len - 1) from `to` on
pub record Spanned (f : ℕ → ℕ) (xs ys : List ℕ) (to len : ℕ) : Type 0 where
  pub long : length ys ≡ length xs
  pub at : (t : ℕ) → t < len → get_or ys (to + t) 0 ≡ f t
  pub rest : (i : ℕ) → (i < to) ⊎ (to + len ≤ i) → get_or ys i 0 ≡ get_or xs i 0

-- what the byte at `at` + t becomes when a change is XORed into it: that between the byte at `from` + t and byte t of x
abbrev pub change_of : List ℕ → ℕ → ℕ → List ℕ → ℕ → ℕ
change_of s at from x t = get_or s (at + t) 0 ⊕ (get_or s (from + t) 0 ⊕ get_or x t 0)
