-- ONE FIELD OF A LINE, as the code puts it: f is the field's bytes, `at` where they go, r the place after them. Definitions only.
use Rattle.std.specs.Prelude.{◌≡◌, List, ◌++◌, ℕ, ◌+◌, ◌≤◌, length, take, drop}

pub record Put (f s : List ℕ) (at r : ℕ) (s' : List ℕ) : Type 0 where
  pub next : r ≡ at + length f
  pub most : length f ≤ 21
  pub left : s' ≡ take at s ++ f ++ drop r s
