-- Laws of the list of a chain: it begins, grows by the two of a height, stands when another entry is written; a table moved to a chain, and beyond its wrap.
use Rattle.std.proofs.Common.{◌≡◌, ℕ, ◌+◌, ◌-◌, ◌*◌, ◌%◌, ◌<◌, ◌≤◌, ◌≢◌, List, length, get_or, set, sym, refl, ap, ◌∙◌, subst, arith, length-set, get_or-set_other, get_or-set_same}
use native.Mathlib.Decide.{dec_le, dec_lt, ℕ_discrete}
use Rattle.shape.specs.declared.Shape.{Shape}
use Rattle.shape.specs.Place.{column_length, slot, place}
use Rattle.shape.specs.Step.{left, right}
use Rattle.shape.specs.Good.{size, Good}
use Rattle.shape.proofs.GoodLaws.{good_m, good_room}
use Rattle.shape.proofs.Fits.{place_ends}
use Rattle.shape.proofs.StepLaws.{left_lt, right_lt}
use Rattle.walking.proofs.WalkLaws.{left_near, left_far, right_near, right_far}
use Rattle.listing.specs.Places.{Listed, Laid, Table, Moved, Straight, EverySecond, Further}

pub listed_none : (sh : Shape) (p : ℕ) (l : List ℕ) → length l ≡ 32 → Listed sh p 1 l
listed_none sh p l h = record { long = h; lefts = λ d lo hi. absurd (omega arith); rights = λ d lo hi. absurd (omega arith) }

-- an entry past the heights is written
pub listed_past : (sh : Shape) (p e j : ℕ) (l : List ℕ) (v : ℕ) → 2 * e - 2 ≤ j → Listed sh p e l → Listed sh p e (set l j v)
listed_past sh p e j l v h c = record {
  long = length-set l j v ∙ c.long;
  lefts = λ d lo hi. get_or-set_other l j (2 * d - 2) v 0 (λ z. omega arith) ∙ c.lefts d lo hi;
  rights = λ d lo hi. get_or-set_other l j (2 * d - 1) v 0 (λ z. omega arith) ∙ c.rights d lo hi;
}

module _ (sh : Shape) (p d : ℕ) (l : List ℕ) (v u a b : ℕ) (lo : 1 ≤ d) (hi : d ≤ 15) (c : Listed sh p d l)
    (ev : v ≡ place sh d a 0) (ea : a ≡ left sh.n p d) (eu : u ≡ place sh d b 0) (eb : b ≡ right sh.n p d) where
  once : List ℕ
  once = set l (2 * d - 2) v

  twice : List ℕ
  twice = set once (2 * d - 1) u

  before : Listed sh p d twice
  unfolding once twice
  before = listed_past sh p d (2 * d - 1) _ u (omega arith) (listed_past sh p d (2 * d - 2) l v (omega arith) c)

  here : get_or twice (2 * d - 2) 0 ≡ place sh d (left sh.n p d) 0
  unfolding once twice
  here =
      get_or-set_other (set l (2 * d - 2) v) (2 * d - 1) (2 * d - 2) u 0 (λ z. omega arith) ∙ get_or-set_same l (2 * d - 2) v 0 (omega (arith, c.long)) ∙ ev
      ∙ ap (λ (j : ℕ). place sh d j 0) ea

  there : get_or twice (2 * d - 1) 0 ≡ place sh d (right sh.n p d) 0
  unfolding once twice
  there = get_or-set_same (set l (2 * d - 2) v) (2 * d - 1) u 0 (omega (arith, length-set l (2 * d - 2) v, c.long)) ∙ eu ∙ ap (λ (j : ℕ). place sh d j 0) eb

  -- the two of height d
  pub listed_more : Listed sh p (d + 1) (set (set l (2 * d - 2) v) (2 * d - 1) u)
  unfolding once twice
  listed_more = record {
    long = before.long;
    lefts = λ e le he. at (λ i. get_or twice (2 * i - 2) 0 ≡ place sh i (left sh.n p i) 0) e he here (before.lefts e le) (ℕ_discrete e d);
    rights = λ e le he. at (λ i. get_or twice (2 * i - 1) 0 ≡ place sh i (right sh.n p i) 0) e he there (before.rights e le) (ℕ_discrete e d);
  }
    where
      at : (P : ℕ → Type 0) (e : ℕ) → e < d + 1 → P d → (e < d → P e) → Dec (e ≡ d) → P e
      at P e he now below (yes q) = subst P (sym q) now
      at P e he now below (no ne) = below (omega arith)

-- and the parity symbol
pub laid_of : (sh : Shape) (p j : ℕ) (l : List ℕ) (v : ℕ) → sh.m ≤ 16 → j ≡ 2 * sh.m - 2 → Listed sh p sh.m l → v ≡ place sh 0 p 0 → Laid sh p (set l j v)
laid_of sh p j l v hi f c e = record {
  information = listed_past sh p sh.m j l v (omega arith) c;
  parity = ap (λ (i : ℕ). get_or (set l j v) i 0) (sym f) ∙ get_or-set_same l j v 0 (omega (arith, c.long)) ∙ e;
}

-- ---- a table moved to another chain

module _ (sh : Shape) (good : Good sh) where
  -- the table's chain is one
  pub top_in : sh.m - 1 < sh.n
  top_in = omega (arith, good.m_fits.0, good_room sh good)

  -- where a symbol starts is a number of 16 bits, and so is where a column starts
  place_fits : (d c : ℕ) → d < sh.m → c < sh.n → place sh d c 0 < 65536
  place_fits d c hd hc = omega (arith, place_ends sh good d c hd hc, good.w_fits.0, good.all_fits)

  pub start_fits : (c : ℕ) → c < sh.n → c * column_length sh < 65536
  unfolding place
  start_fits c h = omega (arith, place_fits 0 c (good_m sh good) h)

  right_fits : (p d : ℕ) → p < sh.n → d < sh.m → place sh d (right sh.n p d) 0 < 65536
  right_fits p d hp hd = place_fits d _ hd (right_lt sh.n p d hp (omega (arith, good_room sh good)))

-- the column e of a table's chain comes to the column c, or as many columns off as x and y say
shift_one : (k by top p c e x y : ℕ) → c + y + top ≡ e + p + x → (by + top * k) % 65536 ≡ p * k → (slot : ℕ)
    → ((e * k + slot + by) % 65536 + x * k) % 65536 ≡ (c * k + slot + y * k) % 65536
shift_one k by top p c e x y h f slot =
    let g : (c + y + top) * k ≡ (e + p + x) * k = ap (λ (z : ℕ). z * k) h in
    carry (e * k + slot + by) (x * k) ∙ off (e * k + slot) (x * k) _ by (top * k) (p * k) (omega (arith, g)) f
  where
    carry : (a b : ℕ) → (a % 65536 + b) % 65536 ≡ (a + b) % 65536
    carry a b = omega arith

    off : (a z b by t q : ℕ) → a + z + q ≡ b + t → (by + t) % 65536 ≡ q → (a + by + z) % 65536 ≡ b % 65536
    off a z b by t q h f = omega arith

module _ (sh : Shape) (good : Good sh) (p by : ℕ) (hp : p < sh.n) (list to : List ℕ) (table : Table sh list)
    (way : (by + (sh.m - 1) * column_length sh) % 65536 ≡ p * column_length sh) (moved : Moved list by to) where
  at_column : (i d c e x y : ℕ) → i < 32 → c + y + (sh.m - 1) ≡ e + p + x → get_or list i 0 ≡ place sh d e 0
      → (get_or to i 0 + x * column_length sh) % 65536 ≡ (place sh d c 0 + y * column_length sh) % 65536
  unfolding place
  at_column i d c e x y hi h f =
      omega (arith, moved.each i hi, f, shift_one (column_length sh) by (sh.m - 1) p c e x y h way (slot sh d * sh.w))

  -- the left symbol of height d, x columns too low, and the right one, y columns too high
  left_off : (d x : ℕ) → 1 ≤ d → d < sh.m → left sh.n p d + d ≡ p + x
      → (get_or to (2 * d - 2) 0 + x * column_length sh) % 65536 ≡ place sh d (left sh.n p d) 0
  left_off d x l u h =
      let f = left_near sh.n (sh.m - 1) (top_in sh good) d (omega arith) in
      let fits = place_fits sh good d _ u (left_lt sh.n p d hp (omega (arith, good_room sh good))) in
      let i : 2 * d - 2 < 32 = omega (arith, good.m_fits.1) in
      let from = left sh.n (sh.m - 1) d in
      omega (arith, fits, at_column (2 * d - 2) d (left sh.n p d) from x 0 i (omega (arith, f, h)) (table.information.lefts d l u))

  right_off : (d y : ℕ) → 1 ≤ d → d < sh.m → right sh.n p d + y ≡ p + d
      → get_or to (2 * d - 1) 0 ≡ (place sh d (right sh.n p d) 0 + y * column_length sh) % 65536
  right_off d y l u h =
      let f = right_near sh.n (sh.m - 1) (top_in sh good) d (omega (arith, good_room sh good)) in
      let i : 2 * d - 1 < 32 = omega (arith, good.m_fits.1) in
      let from = right sh.n (sh.m - 1) d in
      omega (arith, moved.each (2 * d - 1) i, at_column (2 * d - 1) d (right sh.n p d) from 0 y i (omega (arith, f, h)) (table.information.rights d l u))

  -- the table moved by as many columns as there are from its chain to p
  pub straight_of : Straight sh p to
  unfolding size
  straight_of =
      let lo = good.m_fits.0 in
      let hi = good.m_fits.1 in
      let room = good_room sh good in
      let top : 2 * sh.m - 2 < 32 = omega (arith, hi) in
      record {
        long = moved.long;
        lefts = λ d l u h. omega (arith, moved.each (2 * d - 2) (omega (arith, hi)), left_off d 0 l u (omega (arith, left_near sh.n p hp d h)));
        rights = λ d l u h. omega (arith, right_fits sh good p d hp u, right_off d 0 l u (omega (arith, right_near sh.n p hp d h)));
        lefts_beyond = λ d u h. omega (arith, left_off d sh.n (omega arith) u (omega (arith, left_far sh.n p hp d h (omega (arith, room)))));
        rights_beyond = λ d l u h. omega (arith, right_off d sh.n l u (omega (arith, right_far sh.n p hp d h (omega (arith, room)))));
        parity =
            let e = at_column (2 * sh.m - 2) 0 p (sh.m - 1) 0 0 top (omega arith) table.parity in
            omega (arith, e, moved.each (2 * sh.m - 2) top, place_fits sh good 0 p (omega (arith, lo)) hp);
      }

-- an entry is written, and the others are so already
written : (f : ℕ → ℕ) (to : List ℕ) (i v j : ℕ) → i < length to → v ≡ f i → (j ≢ i → get_or to j 0 ≡ f j) → get_or (set to i v) j 0 ≡ f j
written f to i v j hi e others = at (ℕ_discrete j i)
  where
    at : Dec (j ≡ i) → get_or (set to i v) j 0 ≡ f j
    at (yes q) = subst (λ (k : ℕ). get_or (set to i v) k 0 ≡ f k) (sym q) (get_or-set_same to i v 0 hi ∙ e)
    at (no ne) = get_or-set_other to i j v 0 (λ z. omega arith) ∙ others ne

-- one entry after another is moved
pub moved_next : (list to : List ℕ) (by i v : ℕ) → i < 32 → length to ≡ 32 → v ≡ (get_or list i 0 + by) % 65536
    → ((j : ℕ) → j < i → get_or to j 0 ≡ (get_or list j 0 + by) % 65536) → (j : ℕ) → j < i + 1 → get_or (set to i v) j 0 ≡ (get_or list j 0 + by) % 65536
moved_next list to by i v hi l e before j h = written (λ k. (get_or list k 0 + by) % 65536) to i v j (omega (arith, l)) e (λ ne. before j (omega arith))

-- every second entry after another is moved
pub further_none : (list : List ℕ) (start by : ℕ) → length list ≡ 32 → Further list start start by list
further_none list start by h = record { long = h; each = λ i z. absurd (omega (arith, z.0, z.1)); others = λ i z. refl }

module _ (list to : List ℕ) (start by : ℕ) where
  pub further_next : (i v : ℕ) → i < 32 → EverySecond start (i + 1) i → v ≡ (get_or to i 0 + by) % 65536 → Further list start i by to
      → Further list start (i + 2) by (set to i v)
  further_next i v hi s e c = record {
    long = length-set to i v ∙ c.long;
    each = λ j z.
        let stands : get_or to i 0 ≡ get_or list i 0 = c.others i (λ y. omega (arith, y.1)) in
        written (λ k. (get_or list k 0 + by) % 65536) to i v j (omega (arith, c.long)) (omega (arith, e, stands))
        (λ ne. c.each j (z.0, omega (arith, z.0, z.1, z.2, s.0, s.2), z.2));
    others = λ j z.
        get_or-set_other to i j v 0 (λ q. z (omega (arith, s.0), omega arith, omega (arith, s.2)))
        ∙ c.others j (λ y. z (y.0, omega (arith, y.1), y.2));
  }

  -- none is between the last of them and end
  pub further_done : (i end : ℕ) → end ≤ i → EverySecond start (end + 2) i → Further list start i by to → Further list start end by to
  further_done i end h s c = record {
    long = c.long;
    each = λ j z. c.each j (z.0, omega (arith, z.1), z.2);
    others = λ j z. c.others j (λ y. z (y.0, omega (arith, y.0, y.1, y.2, s.0, s.1, s.2), y.2));
  }

-- ---- beyond the wrap

-- the straight list l of chain p, and what it is moved to beyond the wrap
module _ (sh : Shape) (good : Good sh) (p : ℕ) (hp : p < sh.n) (l : List ℕ) (s : Straight sh p l) where
  pub laid_straight : sh.m ≤ p + 1 → p + sh.m ≤ sh.n → Laid sh p l
  laid_straight h k = record {
    information = record { long = s.long; lefts = λ d lo hi. s.lefts d lo hi (omega arith); rights = λ d lo hi. s.rights d lo hi (omega arith) };
    parity = s.parity;
  }

  module _ (l' : List ℕ) (by : ℕ) where
    pub laid_left : p + 1 < sh.m → by ≡ size sh % 65536 → Further l (2 * p) (2 * sh.m - 2) by l' → Laid sh p l'
    laid_left h e f = record {
      information = record {
        long = f.long;
        lefts = λ d lo hi. at d lo hi (dec_le d p);
        rights = λ d lo hi. f.others (2 * d - 1) (λ z. omega (arith, z.0, z.2)) ∙ s.rights d lo hi (omega (arith, good_room sh good));
      };
      parity = f.others (2 * sh.m - 2) (λ z. omega (arith, z.1)) ∙ s.parity;
    }
      where
        at : (d : ℕ) → 1 ≤ d → d < sh.m → Dec (d ≤ p) → get_or l' (2 * d - 2) 0 ≡ place sh d (left sh.n p d) 0
        at d lo hi (yes k) = f.others (2 * d - 2) (λ z. omega (arith, z.0)) ∙ s.lefts d lo hi k
        at d lo hi (no k) = omega (arith, e, f.each (2 * d - 2) (omega arith, omega arith, omega arith), s.lefts_beyond d hi (omega arith))

    pub laid_right : sh.m ≤ p + 1 → sh.n < p + sh.m → (by + size sh % 65536) % 65536 ≡ 0
        → Further l (2 * (sh.n - p) - 1) (2 * sh.m - 2) by l' → Laid sh p l'
    laid_right h k e f = record {
      information = record {
        long = f.long;
        lefts = λ d lo hi. f.others (2 * d - 2) (λ z. omega (arith, z.0, z.2)) ∙ s.lefts d lo hi (omega arith);
        rights = λ d lo hi. at d lo hi (dec_lt (p + d) sh.n);
      };
      parity = f.others (2 * sh.m - 2) (λ z. omega (arith, z.1)) ∙ s.parity;
    }
      where
        at : (d : ℕ) → 1 ≤ d → d < sh.m → Dec (p + d < sh.n) → get_or l' (2 * d - 1) 0 ≡ place sh d (right sh.n p d) 0
        at d lo hi (yes j) = f.others (2 * d - 1) (λ z. omega (arith, z.0)) ∙ s.rights d lo hi j
        at d lo hi (no j) =
            let there = f.each (2 * d - 1) (omega arith, omega arith, omega arith) in
            omega (arith, e, there, s.rights_beyond d lo hi (omega arith), right_fits sh good p d hp hi)
