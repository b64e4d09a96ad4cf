-- What holds of a side: 0 is first's, every other is second's.
use mathlib.Core.Path.{◌≡◌, refl, sym, subst}
use mathlib.Core.Logic.{◌≢◌}
use Prim.Native.Nat.{ℕ, zero, suc}

pub of_first : (P : ℕ → Type 0) (side : ℕ) → side ≡ 0 → P 0 → P side
of_first P side e = subst P (sym e)

pub of_second : (P : ℕ → Type 0) (side : ℕ) → side ≢ 0 → ((i : ℕ) → P (suc i)) → P side
of_second P zero n h = absurd (n refl)
of_second P (suc i) n h = h i
