-- WHAT THOSE WHO ASK A GOOD SHAPE LEARN: the number that is defined, and the bounds that keep it inside the stripe. Definitions only.
use Rattle.std.specs.Prelude.{◌≡◌, ℕ, ◌+◌, ◌≤◌, ◌<◌}
use Rattle.shape.specs.declared.Shape.{Shape}
use Rattle.shape.specs.Good.{most, size}
use Rattle.shape.specs.Place.{column_length, place}

-- r is where the symbol of height d in column c starts, and it ends inside the stripe
pub record Placed (sh : Shape) (d c r : ℕ) : Type 0 where
  pub at : r ≡ place sh d c 0
  pub ends : r + sh.w ≤ size sh
  pub small : size sh ≤ most

-- r is the length of a column, which is no longer than the stripe
pub record ColumnSized (sh : Shape) (r : ℕ) : Type 0 where
  pub is : r ≡ column_length sh
  pub inside : r ≤ size sh
  pub small : size sh ≤ most

-- r is the length of the stripe
pub record StripeSized (sh : Shape) (r : ℕ) : Type 0 where
  pub is : r ≡ size sh
  pub small : size sh ≤ most

-- r is the column `to`, and one of the n columns
pub record Stepped (n to r : ℕ) : Type 0 where
  pub is : r ≡ to
  pub below : r < n
