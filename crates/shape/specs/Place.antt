-- STRIPE AND SHAPE (document 01): where the bytes of a stripe stand. Definitions only.
-- Nothing but `slot` says where in its column a symbol is.
use Rattle.std.specs.Prelude.{List, ℕ, ◌+◌, ◌-◌, ◌*◌, get_or, take, drop}
use Rattle.shape.specs.declared.Shape.{Shape}

-- "Call m-1-i the height of row i"; and the row of height d
unfoldable pub height : Shape → ℕ → ℕ
height sh i = sh.m - 1 - i

unfoldable pub row : Shape → ℕ → ℕ
row sh d = sh.m - 1 - d

-- "Row i of it starts i·w bytes in": counted from the start of its column, the symbol of height d is this one
unfoldable pub slot : Shape → ℕ → ℕ
slot sh d = row sh d

-- how many bytes a column has
abbrev pub column_length : Shape → ℕ
column_length sh = sh.m * sh.w

-- "Column j is the bytes from j·m·w up to (j+1)·m·w."
-- Where byte t of the symbol of height d in column c stands.
unfoldable pub place : Shape → ℕ → ℕ → ℕ → ℕ
place sh d c t = c * column_length sh + slot sh d * sh.w + t

-- the stripe s read as a table: byte t of the symbol of height d in column c
unfoldable pub byte : Shape → List ℕ → ℕ → ℕ → ℕ → ℕ
byte sh s t d c = get_or s (place sh d c t) 0

-- column c of the stripe s, as a part of it
unfoldable pub column : Shape → List ℕ → ℕ → List ℕ
column sh s c = take (column_length sh) (drop (c * column_length sh) s)
