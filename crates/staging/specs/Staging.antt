-- STAGING (document 01): the lost columns solved in the workspace, first's at its start and second's behind it. Definitions only.
use Rattle.std.specs.Prelude.{◌≡◌, List, ℕ, ◌*◌, ◌%◌, ◌≤◌, ◌<◌, length}
use Rattle.shape.specs.Good.{Good, size}
use Rattle.shape.specs.Place.{column_length}
use Rattle.solving.specs.declared.Gone.{Gone}
use Rattle.solving.specs.Outer.{column_of}
use Rattle.solving.specs.Alone.{Right, SolvedAlone}

-- the lost columns g of the stripe s can be staged in `out`: where something is asked for there are two of them
pub record Stageable (g : Gone) (s out : List ℕ) : Type 0 where
  pub good : Good g.shape
  pub whole : length s ≡ size g.shape
  pub near : 1 ≤ g.walk
  pub short : g.walk ≤ 64
  pub two : g.walk < g.shape.m → (side : ℕ) → column_of g side < g.shape.n
  pub one_is : g.one ≡ 0
  pub two_is : g.two ≡ column_length g.shape
  pub room : 2 * column_length g.shape ≤ length out

-- every symbol of the columns that are lost is in the buffer as v has it
abbrev pub Staged : Gone → (ℕ → ℕ → ℕ → ℕ) → List ℕ → Type 0
Staged g v out = (side d : ℕ) → side ≤ 1 → column_of g side < g.shape.n → d < g.shape.m → Right g v side d out

-- a side's column is solved alone if it is lost, and else nothing is done
pub record SolvedIfLost (g : Gone) (v : ℕ → ℕ → ℕ → ℕ) (side : ℕ) (out out' : List ℕ) : Type 0 where
  pub lost : column_of g side < g.shape.n → SolvedAlone g v side out out'
  pub kept : g.shape.n ≤ column_of g side → out' ≡ out

-- the symbols are staged whose height leaves at least `from` when divided by the walk
abbrev pub StagedFrom : Gone → (ℕ → ℕ → ℕ → ℕ) → ℕ → List ℕ → Type 0
StagedFrom g v from out = (side d : ℕ) → side ≤ 1 → column_of g side < g.shape.n → d < g.shape.m → from ≤ d % g.walk → Right g v side d out
