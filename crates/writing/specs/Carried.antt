-- A CHANGE CARRIED INTO A PARITY SYMBOL (document 01, "Small write"): the symbol of height d in column c of the stripe s is to become x, and the
-- parity symbol of chain p takes the change; s' is the stripe as left. Definitions only.
use Rattle.std.specs.Prelude.{◌≡◌, ◌≢◌, ◌⊎◌, List, ℕ, ◌<◌, length, get_or}
use Rattle.xor.specs.Xor.{◌⊕◌}
use Rattle.shape.specs.declared.Shape.{Shape}
use Rattle.shape.specs.Place.{byte}

-- that parity symbol is XORed with the old symbol XOR the new one, and every other byte of the stripe is as it was
pub record Carried (sh : Shape) (s : List ℕ) (d c p : ℕ) (x s' : List ℕ) : Type 0 where
  pub long : length s' ≡ length s
  pub parity : (t : ℕ) → t < sh.w → byte sh s' t 0 p ≡ byte sh s t 0 p ⊕ (byte sh s t d c ⊕ get_or x t 0)
  pub rest : (e j t : ℕ) → e < sh.m → j < sh.n → t < sh.w → (e ≢ 0) ⊎ (j ≢ p) → byte sh s' t e j ≡ byte sh s t e j
