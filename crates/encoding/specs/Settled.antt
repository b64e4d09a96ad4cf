-- ENCODE UNDER WAY: which bytes of the parity symbols are set. Definitions only.
use Rattle.std.specs.Prelude.{◌≡◌, List, ℕ, ◌≤◌, ◌<◌, length}
use Rattle.shape.specs.declared.Shape.{Shape}
use Rattle.shape.specs.Place.{byte}
use Rattle.rule.specs.Rule.{others}

-- s' is s with byte t of the parity symbol of column q set by the rule wherever R q t, and no other byte changed
pub record Settled (sh : Shape) (R : ℕ → ℕ → Type 0) (s s' : List ℕ) : Type 0 where
  pub long : length s' ≡ length s
  pub information : (d c t : ℕ) → 1 ≤ d → d < sh.m → c < sh.n → t < sh.w → byte sh s' t d c ≡ byte sh s t d c
  pub set : (q t : ℕ) → q < sh.n → t < sh.w → R q t → byte sh s' t 0 q ≡ others sh.m sh.n (byte sh s t) q
  pub kept : (q t : ℕ) → q < sh.n → t < sh.w → ¬ R q t → byte sh s' t 0 q ≡ byte sh s t 0 q

-- the bytes lo to hi - 1 of column p; and the columns below p
abbrev pub Stretch : ℕ → ℕ → ℕ → ℕ → ℕ → Type 0
Stretch p lo hi q t = (q ≡ p) × (lo ≤ t) × (t < hi)

abbrev pub Below : ℕ → ℕ → ℕ → Type 0
Below p q t = q < p
