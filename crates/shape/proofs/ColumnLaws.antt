-- Laws of column: its length, and its bytes as the stripe's.
use mathlib.Core.Path.{◌≡◌, sym, ap, ◌∙◌}
use mathlib.Core.List.{List}
use Prim.Native.Nat.{ℕ, ◌-◌, ◌*◌, ◌<◌}
use native.Mathlib.Nat.{mul-pos}
use native.Mathlib.Omega.{arith}
use lib.ListN.{length, get_or, drop, length-take, length-drop}
use lib.Seq.{get_or-take, get_or-drop}
use Rattle.shape.specs.declared.Shape.{Shape}
use Rattle.shape.specs.Good.{size}
use Rattle.shape.specs.Place.{column_length, byte, column}
use Rattle.shape.proofs.PlaceLaws.{height_at, offset_at, place_lt, height_at_lt, offset_at_lt, place_in}

module _ (sh : Shape) (hm : 0 < sh.m) (hw : 0 < sh.w) (x : List ℕ) where
  pub length_column : length x ≡ size sh → (c : ℕ) → c < sh.n → length (column sh x c) ≡ column_length sh
  unfolding column
  length_column len c hc =
      let pos : 0 < column_length sh = mul-pos hm hw in
      let i : ℕ = column_length sh - 1 in
      omega (
        arith,
        place_in sh hm hw c i (omega arith),
        place_lt sh (height_at sh i) c (offset_at sh i) (height_at_lt sh hm hw i) hc (offset_at_lt sh hm hw i),
        length-take (column_length sh) (drop (c * column_length sh) x),
        length-drop (c * column_length sh) x,
      )

  pub get_or_column : (c i : ℕ) → i < column_length sh → get_or (column sh x c) i 0 ≡ byte sh x (offset_at sh i) (height_at sh i) c
  unfolding column byte
  get_or_column c i hi =
      get_or-take (column_length sh) (drop (c * column_length sh) x) i 0 hi
      ∙ get_or-drop (c * column_length sh) x i 0
      ∙ ap (λ (j : ℕ). get_or x j 0) (sym (place_in sh hm hw c i hi))
