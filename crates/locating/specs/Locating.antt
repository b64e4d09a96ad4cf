-- WHAT LOCATE ASKS ON ITS WAY: of a chain, of two chains, of a column. Definitions only.
use Rattle.std.specs.Prelude.{◌≡◌, ◌≢◌, ◌⊎◌, Bool, true, List, ℕ, ◌≤◌, ◌<◌, get_or}
use Rattle.xor.specs.Tells.{Tells}
use Rattle.shape.specs.declared.Shape.{Shape}
use Rattle.shape.specs.Step.{left, right}
use Rattle.rule.specs.Rule.{differs}
use Rattle.locating.specs.Locate.{Explains}

-- bytes lo to hi - 1 of chains p and q differ alike; and y says whether they do and x was yes before them
abbrev pub Level : Shape → List ℕ → ℕ → ℕ → ℕ → ℕ → Type 0
Level sh s p q lo hi = (t : ℕ) → lo ≤ t → t < hi → differs sh s p t ≡ differs sh s q t

abbrev pub Compares : Shape → List ℕ → ℕ → ℕ → ℕ → ℕ → Bool → Bool → Type 0
Compares sh s p q lo hi x y = Tells ((x ≡ true) × Level sh s p q lo hi) y

-- chain p holds
abbrev pub Holds : Shape → List ℕ → ℕ → Type 0
Holds sh s p = (t : ℕ) → t < sh.w → differs sh s p t ≡ 0

-- "chains p and q differ by the same bytes"
abbrev pub Alike : Shape → List ℕ → ℕ → ℕ → Type 0
Alike sh s p q = (t : ℕ) → t < sh.w → differs sh s p t ≡ differs sh s q t

-- chain p is outside "the columns c-(m-1) to c+(m-1)"
abbrev pub Apart : Shape → ℕ → ℕ → Type 0
Apart sh c p = (d : ℕ) → d < sh.m → (p ≢ left sh.n c d) × (p ≢ right sh.n c d)

-- by the bits of each chain: none is broken; and none outside of column c's
abbrev pub Unbroken : Shape → List ℕ → Type 0
Unbroken sh xs = (p : ℕ) → p < sh.n → get_or xs p 0 ≡ 0

abbrev pub Within : Shape → List ℕ → ℕ → Type 0
Within sh xs c = (p : ℕ) → p < sh.n → Apart sh c p → get_or xs p 0 ≡ 0

-- what was found is a column that explains every difference, or no column does
abbrev pub Searched : Shape → List ℕ → ℕ × ℕ → Type 0
Searched sh s x = ((x.0 ≡ 1) × (x.1 < sh.n) × Explains sh s x.1) ⊎ ((x ≡ (2, 0)) × ((c : ℕ) → c < sh.n → ¬ Explains sh s c))
