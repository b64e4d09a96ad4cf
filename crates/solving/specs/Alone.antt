-- A COLUMN SOLVED ALONE (document 01): "when d+s is at most m-1" a symbol asks for another; with a walk of m or more none does. Definitions only.
use Rattle.std.specs.Prelude.{◌≡◌, ◌⊎◌, List, ℕ, ◌+◌, ◌≤◌, ◌<◌, length, get_or}
use Rattle.shape.specs.Good.{Good, size}
use Rattle.shape.specs.Place.{column_length}
use Rattle.solving.specs.declared.Gone.{Gone}
use Rattle.solving.specs.Outer.{column_of, base_of, spot}

-- a side's column of the stripe s can be solved in `out`, where it has its room, and asks for nothing
pub record Lone (g : Gone) (side : ℕ) (s out : List ℕ) : Type 0 where
  pub good : Good g.shape
  pub whole : length s ≡ size g.shape
  pub side_is : side ≤ 1
  pub column : column_of g side < g.shape.n
  pub far : g.shape.m ≤ g.walk
  pub short : g.walk ≤ 64
  pub room : base_of g side + column_length g.shape ≤ length out

-- a side's symbol of height d is in the buffer as v has it
abbrev pub Right : Gone → (ℕ → ℕ → ℕ → ℕ) → ℕ → ℕ → List ℕ → Type 0
Right g v side d out = (t : ℕ) → t < g.shape.w → get_or out (spot g side d + t) 0 ≡ v side d t

-- what is not in a side's column of the buffer is as it was
abbrev pub Kept : Gone → ℕ → List ℕ → List ℕ → Type 0
Kept g side out out' = (i : ℕ) → (i < base_of g side) ⊎ (base_of g side + column_length g.shape ≤ i) → get_or out' i 0 ≡ get_or out i 0

-- a side's column is in the buffer as v has it, and the rest is as it was
pub record SolvedAlone (g : Gone) (v : ℕ → ℕ → ℕ → ℕ) (side : ℕ) (out out' : List ℕ) : Type 0 where
  pub column : (d : ℕ) → d < g.shape.m → Right g v side d out'
  pub rest : Kept g side out out'
