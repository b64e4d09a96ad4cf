-- THE PARITY RULE (document 01). Definitions only.
use Rattle.std.specs.Prelude.{◌≡◌, cond, List, ℕ, ◌-◌, ◌<◌, eqb}
use Rattle.xor.specs.Xor.{◌⊕◌, xors}
use Rattle.shape.specs.declared.Shape.{Shape}
use Rattle.shape.specs.Place.{byte}
use Rattle.shape.specs.Step.{left, right}

-- symbols by height and column, one byte of each
abbrev pub Grid : Type 0
Grid = ℕ → ℕ → ℕ

-- "Chain p consists of the parity symbol of column p and, for every height d, the symbols of height d in columns p-d and p+d": the XOR of these
-- others; heights are 1 to m-1.
unfoldable pub others : ℕ → ℕ → Grid → ℕ → ℕ
others m n X p = xors (m - 1) (λ d. X d (left n p d) ⊕ X d (right n p d))

-- the XOR of the whole chain p: of its parity symbol, which has height 0, and the others
unfoldable pub chain : ℕ → ℕ → Grid → ℕ → ℕ
chain m n X p = X 0 p ⊕ others m n X p

-- "The rule: the parity symbol is the XOR of the 2m-2 others, byte by byte."
pub record Obeys (sh : Shape) (s : List ℕ) : Type 0 where
  pub rule : (p t : ℕ) → p < sh.n → t < sh.w → byte sh s t 0 p ≡ others sh.m sh.n (byte sh s t) p

-- by which bits chain p breaks the rule at byte t: stored XOR computed parity
unfoldable pub differs : Shape → List ℕ → ℕ → ℕ → ℕ
differs sh s p t = chain sh.m sh.n (byte sh s t) p

-- zeros, but for a 1 as the symbol of height d in column c
unfoldable pub mark : ℕ → ℕ → Grid
mark d c e j = cond (eqb e d) (cond (eqb j c) 1 0) 0
