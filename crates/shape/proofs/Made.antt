-- Lists made by number, and the stripe made of a table: byte t of height d in column c is F t d c.
use mathlib.Core.Path.{◌≡◌, refl, ap, ◌∙◌}
use mathlib.Core.List.{List, [], ◌∷◌}
use Prim.Native.Nat.{ℕ, zero, suc, ◌<◌}
use native.Mathlib.Omega.{arith}
use lib.ListN.{length, get_or}
use Rattle.shape.specs.declared.Shape.{Shape}
use Rattle.shape.specs.Good.{size}
use Rattle.shape.specs.Place.{place, byte}
use Rattle.shape.proofs.PlaceLaws.{column_at, height_at, offset_at, place_lt, column_at_place, height_at_place, offset_at_place}

-- f 0, f 1, .. f (k - 1)
pub listed : ℕ → (ℕ → ℕ) → List ℕ
listed zero f = []
listed (suc k) f = f 0 ∷ listed k (λ i. f (suc i))

pub length_listed : (k : ℕ) (f : ℕ → ℕ) → length (listed k f) ≡ k
unfolding listed
length_listed zero f = refl
length_listed (suc k) f = ap suc (length_listed k (λ i. f (suc i)))

pub get_or_listed : (k : ℕ) (f : ℕ → ℕ) (i : ℕ) → i < k → get_or (listed k f) i 0 ≡ f i
unfolding listed
get_or_listed zero f i h = absurd (omega arith)
get_or_listed (suc k) f zero h = refl
get_or_listed (suc k) f (suc i) h = get_or_listed k (λ j. f (suc j)) i (omega arith)

pub made : Shape → (ℕ → ℕ → ℕ → ℕ) → List ℕ
made sh F = listed (size sh) (λ i. F (offset_at sh i) (height_at sh i) (column_at sh i))

pub length_made : (sh : Shape) (F : ℕ → ℕ → ℕ → ℕ) → length (made sh F) ≡ size sh
unfolding made
length_made sh F = length_listed (size sh) _

pub get_or_made : (sh : Shape) (F : ℕ → ℕ → ℕ → ℕ) (i : ℕ) → i < size sh → get_or (made sh F) i 0 ≡ F (offset_at sh i) (height_at sh i) (column_at sh i)
unfolding made
get_or_made sh F i h = get_or_listed (size sh) _ i h

pub byte_made : (sh : Shape) (F : ℕ → ℕ → ℕ → ℕ) (d c t : ℕ) → d < sh.m → c < sh.n → t < sh.w → byte sh (made sh F) t d c ≡ F t d c
unfolding byte
byte_made sh F d c t hd hc ht =
    get_or_made sh F (place sh d c t) (place_lt sh d c t hd hc ht)
    ∙ rw (height_at_place sh d c t hd ht, column_at_place sh d c t hd ht, offset_at_place sh d c t hd ht)
