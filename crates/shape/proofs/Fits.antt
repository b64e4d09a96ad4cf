-- No product of a good shape is too long: what the code multiplies stays below the stripe's length, or is small by the ranges alone.
-- To cite: rows_columns, all_three, price_small, reads_some, column_inside, place_ends, placed.
use mathlib.Core.Path.{◌≡◌}
use Prim.Native.Nat.{ℕ, ◌+◌, ◌-◌, ◌*◌, ◌≤◌, ◌<◌}
use native.Mathlib.Nat.{mul-le-mul, mul-le-mul_left}
use native.Mathlib.Omega.{arith}
use Rattle.shape.specs.declared.Shape.{Shape}
use Rattle.shape.specs.Good.{size, Good}
use Rattle.shape.specs.Place.{column_length, slot, place}
use Rattle.shape.specs.Placed.{Placed}
use Rattle.shape.proofs.PlaceLaws.{place_lt}

-- ---- by the ranges alone

pub rows_columns : (m n : ℕ) → m ≤ 16 → n ≤ 64 → m * n ≤ 1024
rows_columns m n h k = mul-le-mul {n₂ = 16} {m₂ = 64} h k

pub all_three : (m n w : ℕ) → m ≤ 16 → n ≤ 64 → w ≤ 4096 → m * n * w ≤ 4194304
all_three m n w h k l = mul-le-mul {n₂ = 1024} {m₂ = 4096} (rows_columns m n h k) l

-- a price: at most 64 times 32
pub price_small : (x y : ℕ) → x ≤ 64 → y ≤ 32 → x * y ≤ 2048
price_small x y h k = mul-le-mul {n₂ = 64} {m₂ = 32} h k

pub reads_some : (m : ℕ) → 2 ≤ m → 4 ≤ 2 * m * (m - 1)
reads_some m h = mul-le-mul {n₁ = 4} {m₁ = 1} (omega arith) (omega arith)

-- ---- by the stripe's length

module _ (sh : Shape) (good : Good sh) where
  pub column_inside : column_length sh ≤ size sh
  unfolding size
  column_inside =
      let one : 1 ≤ sh.n = omega (arith, good.n_fits.0, good.m_fits.0) in
      omega (arith, mul-le-mul_left (sh.m * sh.w) one)

  -- a symbol ends inside the stripe
  pub place_ends : (d c : ℕ) → d < sh.m → c < sh.n → place sh d c 0 + sh.w ≤ size sh
  unfolding place
  place_ends d c hd hc =
      let some : 1 ≤ sh.w = good.w_fits.0 in omega (arith, place_lt sh d c (sh.w - 1) hd hc (omega arith))

  -- the code's sum, of a column's length L and a slot k
  pub placed : (d c L k : ℕ) → d < sh.m → c < sh.n → L ≡ column_length sh → k ≡ slot sh d → Placed sh d c (c * L + k * sh.w)
  unfolding place
  placed d c L k hd hc e f =
      rw (e, f) record { at = omega arith; ends = omega (arith, place_ends d c hd hc); small = good.all_fits }
