-- Laws of place: below the stripe's length, each byte at a place of its own, and each place of the stripe some symbol's byte.
-- Only the first part looks into `slot`; the rest goes by its laws.
use mathlib.Core.Path.{◌≡◌, sym, ap, ◌∙◌}
use mathlib.Core.List.{List}
use Prim.Native.Nat.{ℕ, ◌+◌, ◌-◌, ◌*◌, ◌/◌, ◌%◌, ◌<◌}
use native.Mathlib.Nat.{mod-lt, div-add-mod', div-eq_of_lt, div-lt_iff_lt-mul, mul-pos, add_assoc}
use native.Mathlib.Omega.{arith}
use native.Mathlib.Decide.{dec_lt}
use lib.Arith.{digits_lt, digits_div, digits_mod}
use lib.ListN.{length, get_or, get_or-eq_default}
use lib.Seq.{ext_get_or}
use Rattle.shape.specs.declared.Shape.{Shape}
use Rattle.shape.specs.Good.{size}
use Rattle.shape.specs.Place.{row, slot, column_length, place, byte}

-- ---- slot, and back

-- the height of the symbol in slot k
unfoldable pub unslot : Shape → ℕ → ℕ
unslot sh k = sh.m - 1 - k

pub slot_lt : (sh : Shape) (d : ℕ) → d < sh.m → slot sh d < sh.m
unfolding slot row
slot_lt sh d h = omega arith

pub unslot_lt : (sh : Shape) (k : ℕ) → 0 < sh.m → unslot sh k < sh.m
unfolding unslot
unslot_lt sh k h = omega arith

pub unslot_slot : (sh : Shape) (d : ℕ) → d < sh.m → unslot sh (slot sh d) ≡ d
unfolding unslot slot row
unslot_slot sh d h = omega arith

pub slot_unslot : (sh : Shape) (k : ℕ) → k < sh.m → slot sh (unslot sh k) ≡ k
unfolding unslot slot row
slot_unslot sh k h = omega arith

-- k heights up is k slots down
pub slot_up : (sh : Shape) (d k : ℕ) → d + k < sh.m → slot sh (d + k) + k ≡ slot sh d
unfolding slot row
slot_up sh d k h = omega arith

-- ---- place, and back: whose byte stands at place i

unfoldable pub column_at : Shape → ℕ → ℕ
column_at sh i = i / column_length sh

unfoldable pub height_at : Shape → ℕ → ℕ
height_at sh i = unslot sh (i % column_length sh / sh.w)

unfoldable pub offset_at : Shape → ℕ → ℕ
offset_at sh i = i % column_length sh % sh.w

module _ (sh : Shape) where
  -- inside its column
  spot : ℕ → ℕ → ℕ
  spot d t = slot sh d * sh.w + t

  spot_lt : (d t : ℕ) → d < sh.m → t < sh.w → spot d t < column_length sh
  unfolding spot
  spot_lt d t hd ht = digits_lt (slot_lt sh d hd) ht

  place_spot : (d c t : ℕ) → place sh d c t ≡ c * column_length sh + spot d t
  unfolding place spot
  place_spot d c t = add_assoc (c * column_length sh) (slot sh d * sh.w) t

  pub place_lt : (d c t : ℕ) → d < sh.m → c < sh.n → t < sh.w → place sh d c t < size sh
  unfolding size
  place_lt d c t hd hc ht = omega (arith, place_spot d c t, digits_lt {q = c} {m = sh.n} hc (spot_lt d t hd ht))

  -- the front of a buffer is a column of its own
  pub front_lt : (d t : ℕ) → d < sh.m → t < sh.w → place sh d 0 t < column_length sh
  front_lt d t hd ht = omega (arith, place_spot d 0 t, spot_lt d t hd ht)

  pub place_up : (d k c t : ℕ) → d + k < sh.m → k * sh.w + place sh (d + k) c t ≡ place sh d c t
  unfolding place
  place_up d k c t h = omega (arith, ap (λ (x : ℕ). x * sh.w) (slot_up sh d k h))

  pub column_at_place : (d c t : ℕ) → d < sh.m → t < sh.w → column_at sh (place sh d c t) ≡ c
  unfolding column_at
  column_at_place d c t hd ht = ap (λ (x : ℕ). x / column_length sh) (place_spot d c t) ∙ digits_div c (spot_lt d t hd ht)

  within : (d c t : ℕ) → d < sh.m → t < sh.w → place sh d c t % column_length sh ≡ spot d t
  within d c t hd ht = ap (λ (x : ℕ). x % column_length sh) (place_spot d c t) ∙ digits_mod c (spot_lt d t hd ht)

  pub height_at_place : (d c t : ℕ) → d < sh.m → t < sh.w → height_at sh (place sh d c t) ≡ d
  unfolding height_at spot
  height_at_place d c t hd ht =
      ap (unslot sh) (ap (λ (x : ℕ). x / sh.w) (within d c t hd ht) ∙ digits_div (slot sh d) ht) ∙ unslot_slot sh d hd

  pub offset_at_place : (d c t : ℕ) → d < sh.m → t < sh.w → offset_at sh (place sh d c t) ≡ t
  unfolding offset_at spot
  offset_at_place d c t hd ht = ap (λ (x : ℕ). x % sh.w) (within d c t hd ht) ∙ digits_mod (slot sh d) ht

  -- two symbols never share a byte
  pub place_apart : (d c t d' c' t' : ℕ) → d < sh.m → t < sh.w → d' < sh.m → t' < sh.w → place sh d c t ≡ place sh d' c' t'
      → (d ≡ d') × (c ≡ c') × (t ≡ t')
  place_apart d c t d' c' t' hd ht hd' ht' e = (
    sym (height_at_place d c t hd ht) ∙ ap (height_at sh) e ∙ height_at_place d' c' t' hd' ht',
    sym (column_at_place d c t hd ht) ∙ ap (column_at sh) e ∙ column_at_place d' c' t' hd' ht',
    sym (offset_at_place d c t hd ht) ∙ ap (offset_at sh) e ∙ offset_at_place d' c' t' hd' ht',
  )

  module _ (hm : 0 < sh.m) (hw : 0 < sh.w) where
    column_pos : 0 < column_length sh
    column_pos = mul-pos hm hw

    pub offset_at_lt : (i : ℕ) → offset_at sh i < sh.w
    unfolding offset_at
    offset_at_lt i = mod-lt (i % column_length sh) hw

    pub height_at_lt : (i : ℕ) → height_at sh i < sh.m
    unfolding height_at
    height_at_lt i = unslot_lt sh (i % column_length sh / sh.w) hm

    pub column_at_lt : (i : ℕ) → i < size sh → column_at sh i < sh.n
    unfolding column_at size
    column_at_lt i h = (div-lt_iff_lt-mul column_pos).1 (omega arith)

    pub place_at : (i : ℕ) → place sh (height_at sh i) (column_at sh i) (offset_at sh i) ≡ i
    unfolding place height_at column_at offset_at
    place_at i =
        let r : ℕ = i % column_length sh in
        let z : r / sh.w < sh.m = (div-lt_iff_lt-mul hw).1 (mod-lt i column_pos) in
        ap (λ (x : ℕ). i / column_length sh * column_length sh + x * sh.w + r % sh.w) (slot_unslot sh (r / sh.w) z)
        ∙ add_assoc (i / column_length sh * column_length sh) (r / sh.w * sh.w) (r % sh.w)
        ∙ ap (λ (x : ℕ). i / column_length sh * column_length sh + x) (div-add-mod' r sh.w)
        ∙ div-add-mod' i (column_length sh)

    -- byte i of column c
    pub place_in : (c i : ℕ) → i < column_length sh → place sh (height_at sh i) c (offset_at sh i) ≡ c * column_length sh + i
    unfolding place column_at
    place_in c i hi =
        let e : place sh (height_at sh i) 0 (offset_at sh i) ≡ i =
        ap (λ (j : ℕ). place sh (height_at sh i) j (offset_at sh i)) (sym (div-eq_of_lt hi)) ∙ place_at i in
        omega arith

    -- two stripes with the same bytes are the same
    pub byte_ext : (x y : List ℕ) → length x ≡ size sh → length y ≡ size sh
        → ((d c t : ℕ) → d < sh.m → c < sh.n → t < sh.w → byte sh x t d c ≡ byte sh y t d c) → x ≡ y
    unfolding byte
    byte_ext x y lx ly h = ext_get_or 0 x y (lx ∙ sym ly) (λ i hi.
        ap (λ (j : ℕ). get_or x j 0) (sym (place_at i))
        ∙ h (height_at sh i) (column_at sh i) (offset_at sh i) (height_at_lt i) (column_at_lt i (omega arith)) (offset_at_lt i)
        ∙ ap (λ (j : ℕ). get_or y j 0) (place_at i))

  -- a table's entries are bytes where the list's are
  pub byte_small : (s : List ℕ) → ((i : ℕ) → i < length s → get_or s i 0 < 256) → (t d c : ℕ) → byte sh s t d c < 256
  unfolding byte
  byte_small s small t d c = at (dec_lt (place sh d c t) (length s))
    where
      at : Dec (place sh d c t < length s) → get_or s (place sh d c t) 0 < 256
      at (yes h) = small (place sh d c t) h
      at (no h) = omega (arith, get_or-eq_default s 0 {n = place sh d c t} (omega arith))
