-- A COLUMN HANDED OUT, AND FROM WHERE (document 01): "as the caller's own bytes, never as a copy". Definitions only.
use Rattle.std.specs.Prelude.{◌≢◌, List, ℕ, ◌*◌, length}
use Rattle.std.specs.Borrow.{Bor}
use Rattle.shape.specs.declared.Shape.{Shape}
use Rattle.shape.specs.Place.{column_length}
use Rattle.shape.specs.Own.{PartOf}
use Rattle.handing.specs.Column.{ColumnRead}

-- the part r is column c of the stripe s, and lies in it: "Column j is the bytes from j·m·w"
pub record Handed (sh : Shape) (s : Bor (List ℕ)) (c : ℕ) (r : Bor (List ℕ)) : Type 0 where
  pub read : ColumnRead sh s.now c r.now
  pub own : length r.now ≢ 0 → PartOf s r (c * column_length sh)
