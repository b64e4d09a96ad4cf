-- STRIPE AND SHAPE (document 01): which shapes are good. Definitions only.
use Rattle.std.specs.Prelude.{◌⊎◌, ℕ, ◌-◌, ◌*◌, ◌≤◌, ◌<◌}
use Rattle.shape.specs.declared.Shape.{Shape}

-- the least and the most that a number may be
abbrev pub Range : Type 0
Range = ℕ × ℕ

abbrev pub Within : Range → ℕ → Type 0
Within range x = (range.0 ≤ x) × (x ≤ range.1)

abbrev pub Outside : Range → ℕ → Type 0
Outside range x = (x < range.0) ⊎ (range.1 < x)

-- "m is the number of rows, 2 to 16."
abbrev pub rows : Range
rows = (2, 16)

-- "n is the number of columns, 4m-3 to 64."
abbrev pub columns : ℕ → Range
columns m = (4 * m - 3, 64)

-- "w is the symbol size in bytes, 1 to 4,096, and m·n·w is at most 65,536."
abbrev pub symbol : Range
symbol = (1, 4096)

abbrev pub most : ℕ
most = 65536

-- how many bytes a stripe has
unfoldable pub size : Shape → ℕ
size sh = sh.m * sh.n * sh.w

-- a shape that is within all of these
pub record Good (sh : Shape) : Type 0 where
  pub m_fits : Within rows sh.m
  pub n_fits : Within (columns sh.m) sh.n
  pub w_fits : Within symbol sh.w
  pub all_fits : size sh ≤ most

-- the shape (m, n, w)
abbrev pub shape : ℕ → ℕ → ℕ → Shape
shape m n w = record { m = m; n = n; w = w }
