-- BYTES COMPARED: which bytes of two rows are the same, and a search for the first part of them that is not. Definitions only.
use Rattle.std.specs.Prelude.{◌≡◌, Bool, Option, MatchOption, List, ℕ, ◌+◌, ◌≤◌, ◌<◌, get_or}
use Rattle.xor.specs.Tells.{Tells}

-- the bytes lo to hi - 1 of F are those of G
abbrev pub Level : (ℕ → ℕ) → (ℕ → ℕ) → ℕ → ℕ → Type 0
Level F G lo hi = (t : ℕ) → lo ≤ t → t < hi → F t ≡ G t

-- r says whether len bytes from `from` on are the same
abbrev pub Matched : (ℕ → ℕ) → (ℕ → ℕ) → ℕ → ℕ → Bool → Type 0
Matched F G from len r = Tells (Level F G from (from + len)) r

-- the bytes from `from` on, up to w, are not the same; or so many of them are, at least one and none beyond w
abbrev pub Found : (ℕ → ℕ) → (ℕ → ℕ) → ℕ → ℕ → Option ℕ → Type 0
Found F G from w r = MatchOption r (¬ Level F G from w) (λ some. (1 ≤ some) × (from + some ≤ w) × Level F G from (from + some))

-- the bytes of the symbol at `at` of u
abbrev pub bytes_at : List ℕ → ℕ → ℕ → ℕ
bytes_at u at t = get_or u (at + t) 0
