-- FILLING (document 01, "Column read"): a lost column solved in the room of one column. Definitions only.
use Rattle.std.specs.Prelude.{◌≡◌, ◌≢◌, Option, None, Some, List, ℕ, ◌-◌, ◌*◌, ◌%◌, ◌≤◌, ◌<◌, length, get_or}
use Rattle.shape.specs.Good.{Good, size}
use Rattle.shape.specs.Place.{column_length, byte}
use Rattle.solving.specs.declared.Gone.{Gone}
use Rattle.solving.specs.Outer.{column_of, base_of}

-- r is the side of the column wanted, and none where it is neither's
abbrev pub SideOf : Gone → ℕ → Option ℕ → Type 0
SideOf x wanted (Some side) = (side ≤ 1) × (wanted ≡ column_of x side)
SideOf x wanted None = (wanted ≢ x.first) × (wanted ≢ x.second)

-- the lost columns x with a side's column at the start of the buffer, and the other's as many symbols behind it as the walk is long
abbrev pub narrowed : Gone → ℕ → Gone
narrowed x side = record {
  shape = x.shape;
  first = x.first;
  second = x.second;
  walk = x.walk;
  one = side * (x.walk * x.shape.w);
  two = (1 - side) * (x.walk * x.shape.w);
}

-- a side's column of the stripe s can be solved in the first m·w bytes of `out`
pub record Fillable (g : Gone) (side : ℕ) (s out : List ℕ) : Type 0 where
  pub good : Good g.shape
  pub whole : length s ≡ size g.shape
  pub side_is : side ≤ 1
  pub column : column_of g side < g.shape.n
  pub two : g.walk < g.shape.m → column_of g (1 - side) < g.shape.n
  pub near : 1 ≤ g.walk
  pub short : g.walk ≤ 64
  pub own : base_of g side ≡ 0
  pub other : base_of g (1 - side) ≡ g.walk * g.shape.w
  pub room : column_length g.shape ≤ length out

-- a side's symbol of height d is at its place in the column at the start of the buffer
abbrev pub Stands : Gone → (ℕ → ℕ → ℕ → ℕ) → ℕ → ℕ → List ℕ → Type 0
Stands g v side d out = (t : ℕ) → t < g.shape.w → byte g.shape out t d 0 ≡ v side d t

-- the bytes beyond the first m·w are as they were
abbrev pub Untouched : Gone → List ℕ → List ℕ → Type 0
Untouched g out out' = (i : ℕ) → column_length g.shape ≤ i → get_or out' i 0 ≡ get_or out i 0

-- the symbols stand whose height leaves at least `from` when divided by two walks; and all do, and the rest is as it was
abbrev pub StandFrom : Gone → (ℕ → ℕ → ℕ → ℕ) → ℕ → ℕ → List ℕ → Type 0
StandFrom g v side from out = (d : ℕ) → d < g.shape.m → from ≤ d % (2 * g.walk) → Stands g v side d out

pub record ColumnIn (g : Gone) (v : ℕ → ℕ → ℕ → ℕ) (side : ℕ) (out out' : List ℕ) : Type 0 where
  pub front : (d : ℕ) → d < g.shape.m → Stands g v side d out'
  pub rest : Untouched g out out'
