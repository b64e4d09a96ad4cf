-- AGREEMENT (document 01): whether the chains from which no lost symbol is solved hold, with the lost columns in place. Definitions only.
use Rattle.std.specs.Prelude.{◌≡◌, ◌≢◌, cond, List, ℕ, ◌+◌, ◌*◌, ◌≤◌, ◌<◌, eqb, ltb, length, get_or}
use Rattle.shape.specs.declared.Shape.{Shape}
use Rattle.shape.specs.Good.{Good, size}
use Rattle.shape.specs.Place.{byte}
use Rattle.rule.specs.Rule.{Grid, chain}
use Rattle.rule.specs.Outer.{walk}
use Rattle.solving.specs.declared.Gone.{Gone}
use Rattle.solving.specs.Outer.{column_of, spot, chain_of}

-- the stripe s with its lost columns as the buffer `out` has them: byte t of each symbol
unfoldable pub patched : Gone → List ℕ → List ℕ → ℕ → Grid
patched g s out t d c =
    cond (eqb c g.first) (get_or out (spot g 0 d + t) 0)
    (cond (eqb c g.second) (get_or out (spot g 1 d + t) 0)
    (byte g.shape s t d c))

-- a lost symbol is solved from chain p
abbrev pub Uses : Gone → ℕ → Type 0
Uses g p = (side d : ℕ) × (side ≤ 1) × (column_of g side < g.shape.n) × (d < g.shape.m) × (p ≡ chain_of g side d)

-- chain p holds of the stripe so patched
abbrev pub Holds : Gone → List ℕ → List ℕ → ℕ → Type 0
Holds g s out p = (t : ℕ) → t < g.shape.w → chain g.shape.m g.shape.n (patched g s out t) p ≡ 0

-- it does unless a lost symbol is solved from it; and so do all the chains
abbrev pub Passes : Gone → List ℕ → List ℕ → ℕ → Type 0
Passes g s out p = ¬ Uses g p → Holds g s out p

abbrev pub Agreed : Gone → List ℕ → List ℕ → Type 0
Agreed g s out = (p : ℕ) → p < g.shape.n → Passes g s out p

-- how far it is to walk upward from column a to column b; m, which is too far, where one of them is no column
unfoldable pub distance : Shape → ℕ → ℕ → ℕ
distance sh a b = cond (ltb a sh.n) (cond (ltb b sh.n) (walk sh.n a b) sh.m) sh.m

-- how far up from first the chains begin that lie beyond the lost columns, where it is `end` from first up to second
abbrev pub past : Gone → ℕ → ℕ
past g end = cond (ltb g.second g.shape.n) (end + g.shape.m) g.shape.m

-- the lost columns are in order: there is a second only where there is a first, and the walk from first up to it is the shorter
abbrev pub InOrder : Gone → Type 0
InOrder g = g.second < g.shape.n → (g.first < g.shape.n) × (2 * walk g.shape.n g.first g.second ≤ g.shape.n)

-- the lost columns of the stripe s, which are not the same, have their room in the buffer `out`
pub record Patchable (g : Gone) (s out : List ℕ) : Type 0 where
  pub good : Good g.shape
  pub whole : length s ≡ size g.shape
  pub unlike : g.first < g.shape.n → g.first ≢ g.second
  pub room : (side d : ℕ) → side ≤ 1 → d < g.shape.m
      → (spot g side d + g.shape.w ≤ length out) × (spot g side d + g.shape.w ≤ 262144)
