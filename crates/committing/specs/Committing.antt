-- THE COMMIT: the staged columns written into the stripe as a list of stores, a symbol each, in one fixed order. Definitions only.
use Rattle.std.specs.Prelude.{◌≡◌, cond, List, ℕ, zero, suc, ◌+◌, ◌-◌, ◌*◌, ltb, take, drop}
use Rattle.storing.specs.Set.{Set}
use Rattle.solving.specs.declared.Gone.{Gone}
use Rattle.solving.specs.Outer.{column_of, spot}

-- the order of the stores, counted from 0: first's symbols from the highest down to its parity, then second's likewise.
-- Store k is of a symbol of this side, and of this height
unfoldable pub side_at : Gone → ℕ → ℕ
side_at g k = cond (ltb k g.shape.m) 0 1

unfoldable pub height_at : Gone → ℕ → ℕ
height_at g k = cond (ltb k g.shape.m) (g.shape.m - 1 - k) (2 * g.shape.m - 1 - k)

-- it goes into this column of the stripe
abbrev pub column_at : Gone → ℕ → ℕ
column_at g k = column_of g (side_at g k)

-- a side's symbol of height d as it is staged: the w bytes from its spot on
abbrev pub staged_symbol : Gone → List ℕ → ℕ → ℕ → List ℕ
staged_symbol g work side d = take g.shape.w (drop (spot g side d) work)

-- how many symbols column c has to be given: m if it is a column, and none if it stands for no column
unfoldable pub stores_of : Gone → ℕ → ℕ
stores_of g c = cond (ltb c g.shape.n) g.shape.m 0

unfoldable pub stores_in_all : Gone → ℕ
stores_in_all g = stores_of g g.first + stores_of g g.second

-- s' is the stripe s after the first k stores
unfoldable pub Made : Gone → List ℕ → ℕ → List ℕ → List ℕ → Type 0
Made g work zero s s' = s' ≡ s
Made g work (suc k) s s' =
    (mid : List ℕ) × Made g work k s mid × Set g.shape mid (height_at g k) (column_at g k) (staged_symbol g work (side_at g k) (height_at g k)) s'
