-- A CHAIN OF THE STRIPE AS IT STANDS: which of its bytes obey the rule. Definitions only.
use Rattle.std.specs.Prelude.{List, ℕ}
use Rattle.shape.specs.declared.Shape.{Shape}
use Rattle.shape.specs.Place.{byte}
use Rattle.rule.specs.Rule.{others}
use Rattle.matching.specs.Matching.{Level}

-- byte t of chain p: the XOR of the others, and the parity symbol's
abbrev pub others_at : Shape → List ℕ → ℕ → ℕ → ℕ
others_at sh s p t = others sh.m sh.n (byte sh s t) p

abbrev pub parity_at : Shape → List ℕ → ℕ → ℕ → ℕ
parity_at sh s p t = byte sh s t 0 p

-- these are the same in the bytes lo to hi - 1
abbrev pub Even : Shape → List ℕ → ℕ → ℕ → ℕ → Type 0
Even sh s p lo hi = Level (others_at sh s p) (parity_at sh s p) lo hi
