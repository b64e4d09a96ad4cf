-- A YES OR NO THAT IS TRUE. Definitions only.
use Rattle.std.specs.Prelude.{◌≡◌, Bool, true}

-- r says whether P
pub record Tells (P : Type 0) (r : Bool) : Type 0 where
  pub yes : r ≡ true → P
  pub no : P → r ≡ true
