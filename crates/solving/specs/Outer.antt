-- THE OUTER-CHAIN ORDER UNDER WAY (document 01): "the first column's symbol asks for the second's, and that for the first's". Definitions only.
use Rattle.std.specs.Prelude.{◌≡◌, cond, List, ℕ, zero, suc, ◌+◌, ◌-◌, ◌*◌, ◌%◌, ◌≤◌, ◌<◌, ltb, length}
use Rattle.xor.specs.Xor.{◌⊕◌}
use Rattle.xor.specs.Spanned.{Spanned}
use Rattle.shape.specs.Good.{Good, size}
use Rattle.shape.specs.Place.{place, byte}
use Rattle.shape.specs.Step.{left, right}
use Rattle.solving.specs.declared.Gone.{Gone}
use Rattle.summing.specs.Sums.{Apart}
use Rattle.sourcing.specs.Sources.{besides}

-- a side is 0 for first and 1 for second: its column, and where its symbol of height d stands in the buffer, the column being laid out as in a stripe
unfoldable pub column_of : Gone → ℕ → ℕ
column_of g zero = g.first
column_of g (suc side) = g.second

unfoldable pub base_of : Gone → ℕ → ℕ
base_of g zero = g.one
base_of g (suc side) = g.two

abbrev pub spot : Gone → ℕ → ℕ → ℕ
spot g side d = base_of g side + place g.shape d 0 0

-- "The first column's symbol of height d is solved from chain (first - d), the second's from chain (second + d)."
unfoldable pub chain_of : Gone → ℕ → ℕ → ℕ
chain_of g zero d = left g.shape.n g.first d
chain_of g (suc side) d = right g.shape.n g.second d

-- v side d t is byte t of what a side's symbol of height d is solved to: its chain without the lost symbols, and the other side's symbol of height d + walk
-- "when d+s is at most m-1"
pub record Solved (g : Gone) (s : List ℕ) (v : ℕ → ℕ → ℕ → ℕ) : Type 0 where
  pub each : (side d t : ℕ) → side ≤ 1 → column_of g side < g.shape.n → d < g.shape.m → t < g.shape.w
      → v side d t
      ≡ besides g.shape.m g.shape.n (byte g.shape s t) (chain_of g side d) side d side (d + g.walk)
      ⊕ cond (ltb (d + g.walk) g.shape.m) (v (1 - side) (d + g.walk) t) 0

-- the stores that solve a side's symbol of height d, from the buffer `out` to out': first those of the symbol that it asks for, then its own
pub data Stores (g : Gone) (v : ℕ → ℕ → ℕ → ℕ) : ℕ → ℕ → List ℕ → List ℕ → Type 0 where
  alone : (side d : ℕ) (out out' : List ℕ) → g.shape.m ≤ d + g.walk → Spanned (v side d) out out' (spot g side d) g.shape.w → Stores g v side d out out'
  after : (side d : ℕ) (out mid out' : List ℕ) → d + g.walk < g.shape.m → Stores g v (1 - side) (d + g.walk) out mid
      → Spanned (v side d) mid out' (spot g side d) g.shape.w → Stores g v side d out out'

-- the side after k turns
abbrev pub turned : ℕ → ℕ → ℕ
turned k side = (k + side) % 2

-- a side's symbol of height d can be solved from the stripe s into the buffer `out`: its column is one, and so is the other if it is asked for; and every symbol
-- on the way has its room, apart from the one that asks for it or in the same place
pub record Ready (g : Gone) (side d : ℕ) (s out : List ℕ) : Type 0 where
  pub good : Good g.shape
  pub whole : length s ≡ size g.shape
  pub side_is : side ≤ 1
  pub high : d < g.shape.m
  pub column : column_of g side < g.shape.n
  pub other : g.walk < g.shape.m → column_of g (1 - side) < g.shape.n
  pub near : 1 ≤ g.walk
  pub short : g.walk ≤ 64
  pub room : (k : ℕ) → d + k * g.walk < g.shape.m
      → (spot g (turned k side) (d + k * g.walk) + g.shape.w ≤ length out) × (spot g (turned k side) (d + k * g.walk) + g.shape.w ≤ 262144)
  pub apart : (k : ℕ) → d + (k + 1) * g.walk < g.shape.m
      → Apart (spot g (turned k side) (d + k * g.walk)) (spot g (turned (k + 1) side) (d + (k + 1) * g.walk)) g.shape.w
