-- CHECK UNDER WAY: the differing bits chain by chain. Definitions only.
use Rattle.std.specs.Prelude.{◌≡◌, List, ℕ, ◌+◌, ◌-◌, ◌*◌, ◌≤◌, ◌<◌, length, get_or}
use Rattle.std.specs.Int.Count.{ones}
use Rattle.xor.specs.Total.{total}
use Rattle.shape.specs.declared.Shape.{Shape}
use Rattle.rule.specs.Rule.{differs}
use Rattle.checking.specs.Check.{chain_bits}

-- y is x and the bits that the bytes lo to hi - 1 of chain p differ by, at most 8 in each
pub record Counts (sh : Shape) (s : List ℕ) (p lo hi x y : ℕ) : Type 0 where
  pub sum : y ≡ x + total (hi - lo) (λ t. ones (differs sh s p (lo + t)))
  pub most : y ≤ x + 8 * (hi - lo)

-- chain p differs by r bits, at most 8 in each byte of a symbol
abbrev pub Chain : Shape → List ℕ → ℕ → ℕ → Type 0
Chain sh s p r = (r ≡ chain_bits sh s p) × (r ≤ 8 * sh.w)

-- how many bits each chain differs by, in a list for the most columns of a shape
pub record Bits (sh : Shape) (s xs : List ℕ) : Type 0 where
  pub whole : length xs ≡ 64
  pub at : (p : ℕ) → p < sh.n → Chain sh s p (get_or xs p 0)
