-- ALONG A CHAIN: what the code of the calls leaves in a block. Definitions only.
use Rattle.std.specs.Prelude.{◌≡◌, List, ℕ, ◌+◌, ◌-◌, ◌≤◌, ◌<◌, length, get_or}
use Rattle.xor.specs.Xor.{◌⊕◌, xors}
use Rattle.shape.specs.declared.Shape.{Shape}
use Rattle.shape.specs.Good.{Good, size}
use Rattle.shape.specs.Place.{byte}
use Rattle.shape.specs.Step.{left, right}
use Rattle.rule.specs.Rule.{Grid}

-- the two symbols of height d of chain p, XORed
abbrev pub two : ℕ → Grid → ℕ → ℕ → ℕ
two n X p d = X d (left n p d) ⊕ X d (right n p d)

-- len bytes of each symbol of a stripe, from byte `from` on
pub record Part (sh : Shape) (s : List ℕ) (from len : ℕ) : Type 0 where
  pub good : Good sh
  pub whole : length s ≡ size sh
  pub inside : from + len ≤ sh.w

-- the heights a to b - 1 of chain p are added to the first len bytes: what was v XOR the sum below a is v XOR the sum below b
abbrev pub Ran : Shape → List ℕ → ℕ → ℕ → ℕ → ℕ → ℕ → List ℕ → List ℕ → Type 0
Ran sh s p a b from len xs ys =
    (t v : ℕ) → t < len → get_or xs t 0 ≡ v ⊕ xors (a - 1) (two sh.n (byte sh s (from + t)) p) → get_or ys t 0 ≡ v ⊕ xors (b - 1) (two sh.n (byte sh s (from + t)) p)
