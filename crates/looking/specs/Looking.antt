-- WHAT IS ASKED OF A BLOCK: whether it is zero or like a part of a slice, and how many of its bits are 1. Definitions only.
use Rattle.std.specs.Prelude.{◌≡◌, List, ℕ, ◌+◌, ◌*◌, ◌≤◌, ◌<◌, get_or}
use Rattle.std.specs.Int.Count.{ones}
use Rattle.xor.specs.Total.{total}

-- the first len bytes are all 0
abbrev pub Zero : List ℕ → ℕ → Type 0
Zero xs len = (t : ℕ) → t < len → get_or xs t 0 ≡ 0

-- the first len bytes are those of ys from `at` on
abbrev pub Same : List ℕ → List ℕ → ℕ → ℕ → Type 0
Same xs ys at len = (t : ℕ) → t < len → get_or xs t 0 ≡ get_or ys (at + t) 0

-- r says how many bits of the first len bytes are 1: at most 8 in each
pub record Ones (xs : List ℕ) (len r : ℕ) : Type 0 where
  pub sum : r ≡ total len (λ t. ones (get_or xs t 0))
  pub most : r ≤ 8 * len
