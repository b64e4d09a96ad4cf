-- Laws of staging: each symbol has its own place in the workspace, so that what is right stays right; a start solves its whole way; all starts solve all.
use mathlib.Core.Path.{◌≡◌, sym, ap, ◌∙◌, subst}
use mathlib.Core.Logic.{◌⊎◌, inl, inr, ⊎_elim}
use mathlib.Core.List.{List}
use Prim.Native.Nat.{ℕ, zero, suc, ◌+◌, ◌-◌, ◌*◌, ◌/◌, ◌%◌, ◌≤◌, ◌<◌}
use native.Mathlib.Nat.{mod-lt, div-add-mod'}
use native.Mathlib.Omega.{arith}
use native.Mathlib.Decide.{dec_lt, ℕ_discrete}
use lib.ListN.{length, get_or}
use Rattle.xor.specs.Spanned.{Spanned}
use Rattle.shape.specs.Good.{Good}
use Rattle.shape.specs.Place.{place, column_length}
use Rattle.shape.proofs.PlaceLaws.{place_apart}
use Rattle.shape.proofs.Spans.{place_add}
use Rattle.solving.specs.declared.Gone.{Gone}
use Rattle.solving.specs.Outer.{column_of, base_of, spot, Stores, turned, Ready}
use Rattle.summing.specs.Sums.{Apart}
use Rattle.solving.proofs.StoresLaws.{stores_keep, stores_bring}
use Rattle.solving.specs.Alone.{Lone, Right}
use Rattle.solving.proofs.AloneLaws.{front, column_fits}
use Rattle.staging.specs.Staging.{Stageable, Staged, SolvedIfLost, StagedFrom}

module _ (g : Gone) (good : Good g.shape) (e1 : g.one ≡ 0) (e2 : g.two ≡ column_length g.shape) where
  base_zero : base_of g 0 ≡ 0
  unfolding base_of
  base_zero = e1

  base_one : base_of g 1 ≡ column_length g.shape
  unfolding base_of
  base_one = e2

  base_fits : (side : ℕ) → side ≤ 1 → base_of g side ≤ column_length g.shape
  base_fits zero h = omega (arith, base_zero)
  base_fits (suc zero) h = omega (arith, base_one)
  base_fits (suc (suc k)) h = absurd (omega arith)

  -- two symbols of different sides do not meet
  sides_apart : (side d d' : ℕ) → side ≤ 1 → d < g.shape.m → d' < g.shape.m
      → (spot g side d + g.shape.w ≤ spot g (1 - side) d') ⊎ (spot g (1 - side) d' + g.shape.w ≤ spot g side d)
  sides_apart zero d d' hs hd hd' = inl (omega (arith, base_zero, base_one, front g.shape good d hd))
  sides_apart (suc zero) d d' hs hd hd' = inr (omega (arith, base_zero, base_one, front g.shape good d' hd'))
  sides_apart (suc (suc k)) d d' hs hd hd' = absurd (omega arith)

  -- no byte of one symbol is a byte of another
  bytes_apart : (side d side' d' t u : ℕ) → side ≤ 1 → side' ≤ 1 → d < g.shape.m → d' < g.shape.m → t < g.shape.w → u < g.shape.w
      → spot g side d + t ≡ spot g side' d' + u → (side ≡ side') × (d ≡ d')
  bytes_apart side d side' d' t u hs hs' hd hd' ht hu e = at (ℕ_discrete side side')
    where
      at : Dec (side ≡ side') → (side ≡ side') × (d ≡ d')
      at (yes q) =
          let b : base_of g side ≡ base_of g side' = ap (base_of g) q in
          let z : place g.shape d 0 (0 + t) ≡ place g.shape d' 0 (0 + u) = sym (place_add g.shape d 0 0 t) ∙ omega arith ∙ place_add g.shape d' 0 0 u in
          (q, (place_apart g.shape d 0 (0 + t) d' 0 (0 + u) hd (omega arith) hd' (omega arith) z).0)
      at (no q) =
          let o : 1 - side ≡ side' = omega arith in
          absurd (⊎_elim (λ z. omega arith) (λ z. omega arith)
          (subst (λ (i : ℕ). (spot g side d + g.shape.w ≤ spot g i d') ⊎ (spot g i d' + g.shape.w ≤ spot g side d)) o (sides_apart side d d' hs hd hd')))

  -- ---- what is right stays right

  module _ (v : ℕ → ℕ → ℕ → ℕ) where
    store_right : (side d side' d' : ℕ) → side ≤ 1 → side' ≤ 1 → d < g.shape.m → d' < g.shape.m → (out out' : List ℕ)
        → Spanned (v side d) out out' (spot g side d) g.shape.w → Right g v side' d' out → Right g v side' d' out'
    store_right side d side' d' hs hs' hd hd' out out' u h t ht = at (dec_lt i a) (dec_lt i (a + g.shape.w))
      where
        i : ℕ
        i = spot g side' d' + t

        a : ℕ
        a = spot g side d

        at : Dec (i < a) → Dec (i < a + g.shape.w) → get_or out' i 0 ≡ v side' d' t
        at (yes l) k = u.rest i (inl l) ∙ h t ht
        at (no l) (no k) = u.rest i (inr (omega arith)) ∙ h t ht
        at (no l) (yes k) =
            let r = i - a in
            let e : a + r ≡ i = omega arith in
            let (p, q) = bytes_apart side d side' d' r t hs hs' hd hd' (omega arith) ht e in
            let f : a ≡ spot g side' d' = ap (λ (z : ℕ). spot g z d) p ∙ ap (spot g side') q in
            let n : r ≡ t = omega arith in
            ap (λ (j : ℕ). get_or out' j 0) (sym e) ∙ u.at r (omega arith) ∙ ap (λ (z : ℕ). v z d r) p ∙ ap (λ (z : ℕ). v side' z r) q ∙ ap (v side' d') n

    stores_right : (side' d' : ℕ) → side' ≤ 1 → d' < g.shape.m → {side d : ℕ} {out out' : List ℕ} → side ≤ 1 → d < g.shape.m → Stores g v side d out out'
        → Right g v side' d' out → Right g v side' d' out'
    stores_right side' d' hs' hd' hs hd w =
        stores_keep g v (Right g v side' d') hs hd w (λ k i e y a b u. store_right i e side' d' (omega (arith, y.0)) hs' y.2 hd' a b u)

    -- a start solves every symbol on its way
    stores_way : {side d : ℕ} {out out' : List ℕ} → 1 ≤ g.walk → side ≤ 1 → d < g.shape.m → Stores g v side d out out'
        → (k : ℕ) → d + k * g.walk < g.shape.m → Right g v (turned k side) (d + k * g.walk) out'
    stores_way {side} {d} lo hs hd w k l =
        stores_bring g v (Right g v (turned k side) (d + k * g.walk)) lo hs hd w k l
        (λ i e y a b u. subst (λ (z : ℕ). Right g v z (d + k * g.walk) b) y.0 (subst (λ (z : ℕ). Right g v i z b) y.1 u.at))
        (λ j i e h y a b u. store_right i e (turned k side) (d + k * g.walk) (omega (arith, y.0)) (omega arith) y.2 l a b u)

-- ---- a side is ready to be solved

module _ (g : Gone) (s out : List ℕ) (r : Stageable g s out) where
  pub spot_fits : (side d : ℕ) → side ≤ 1 → d < g.shape.m → (spot g side d + g.shape.w ≤ length out) × (spot g side d + g.shape.w ≤ 262144)
  spot_fits side d hs hd =
      let b = base_fits g r.good r.one_is r.two_is side hs in
      let f = front g.shape r.good d hd in
      (omega (arith, b, f, r.room), omega (arith, b, f, column_fits g.shape r.good))

  spots_apart : (side side' d d' : ℕ) → side ≤ 1 → side' ≡ 1 - side → d < g.shape.m → d' < g.shape.m → Apart (spot g side d) (spot g side' d') g.shape.w
  spots_apart side side' d d' hs e hd hd' =
      subst (λ (z : ℕ). Apart (spot g side d) (spot g z d') g.shape.w) (sym e)
      (⊎_elim (λ z. inl z) (λ z. inr (inl z)) (sides_apart g r.good r.one_is r.two_is side d d' hs hd hd'))

  pub stageable_ready : (side d : ℕ) → side ≤ 1 → d < g.shape.m → column_of g side < g.shape.n → Ready g side d s out
  stageable_ready side d hs hd hc = record {
    good = r.good;
    whole = r.whole;
    side_is = hs;
    high = hd;
    column = hc;
    other = λ z. r.two z (1 - side);
    near = r.near;
    short = r.short;
    room = λ k l. spot_fits (turned k side) (d + k * g.walk) (omega arith) l;
    apart = λ k l. spots_apart (turned k side) (turned (k + 1) side) (d + k * g.walk) (d + (k + 1) * g.walk) (omega arith) (omega arith) (omega arith) l;
  }

-- a buffer as long
pub stageable_like : (g : Gone) (s out out' : List ℕ) → length out' ≡ length out → Stageable g s out → Stageable g s out'
stageable_like g s out out' e r = record {
  good = r.good;
  whole = r.whole;
  near = r.near;
  short = r.short;
  two = r.two;
  one_is = r.one_is;
  two_is = r.two_is;
  room = omega (arith, r.room);
}

-- a stripe as long
pub stageable_stripe : (g : Gone) (s s' out : List ℕ) → length s' ≡ length s → Stageable g s out → Stageable g s' out
stageable_stripe g s s' out e r = record {
  good = r.good;
  whole = e ∙ r.whole;
  near = r.near;
  short = r.short;
  two = r.two;
  one_is = r.one_is;
  two_is = r.two_is;
  room = r.room;
}

-- ---- all starts solve all

module _ (g : Gone) (v : ℕ → ℕ → ℕ → ℕ) (s out : List ℕ) (r : Stageable g s out) where
  -- no height leaves the walk
  pub staged_none : StagedFrom g v g.walk out
  staged_none side d hs hc hd l =
      let a : d % g.walk < g.walk = mod-lt d r.near in
      absurd (omega arith)

  pub staged_all : (left : ℕ) → left ≤ 0 → StagedFrom g v left out → Staged g v out
  staged_all left e h side d hs hc hd = h side d hs hc hd (omega arith)

  module _ (mid out' : List ℕ) (left : ℕ) (hl : left < g.shape.m) (one : Stores g v 0 left out mid) (two : Stores g v 1 left mid out') where
    second_right : (side d : ℕ) → side ≤ 1 → d < g.shape.m → Right g v side d mid → Right g v side d out'
    second_right side d hs hd = stores_right g r.good r.one_is r.two_is v side d hs hd (omega arith) hl two

    both_right : (side d : ℕ) → side ≤ 1 → d < g.shape.m → Right g v side d out → Right g v side d out'
    both_right side d hs hd h = second_right side d hs hd (stores_right g r.good r.one_is r.two_is v side d hs hd (omega arith) hl one h)

    both_way : (i k : ℕ) → i ≤ 1 → left + k * g.walk < g.shape.m → Right g v (turned k i) (left + k * g.walk) out'
    both_way zero k hi l =
        second_right (turned k 0) (left + k * g.walk) (omega arith) l (stores_way g r.good r.one_is r.two_is v r.near hi hl one k l)
    both_way (suc zero) k hi l = stores_way g r.good r.one_is r.two_is v r.near hi hl two k l
    both_way (suc (suc i)) k hi l = absurd (omega arith)

    -- the two starts of a height, after those above it
    pub staged_step : (last : ℕ) → last ≤ suc left → StagedFrom g v last out → StagedFrom g v left out'
    staged_step last hb before side d hs hc hd l = at (dec_lt left (d % g.walk))
      where
        k : ℕ
        k = d / g.walk

        at : Dec (left < d % g.walk) → Right g v side d out'
        at (yes h) = both_right side d hs hd (before side d hs hc hd (omega arith))
        at (no h) =
            let e : left + k * g.walk ≡ d = omega (arith, div-add-mod' d g.walk) in
            let f : turned k (turned k side) ≡ side = omega arith in
            subst (λ (i : ℕ). Right g v i d out') f
            (subst (λ (y : ℕ). Right g v (turned k (turned k side)) y out') e (both_way (turned k side) k (omega arith) (omega arith)))

-- ---- columns that ask for nothing

module _ (g : Gone) (s out : List ℕ) (r : Stageable g s out) where
  pub stageable_lone : g.shape.m ≤ g.walk → (side : ℕ) → side ≤ 1 → column_of g side < g.shape.n → Lone g side s out
  stageable_lone far side hs hc =
      let b = base_fits g r.good r.one_is r.two_is side hs in
      record {
        good = r.good;
        whole = r.whole;
        side_is = hs;
        column = hc;
        far = far;
        short = r.short;
        room = omega (arith, b, r.room);
      }

  -- first's column stays when second's is solved behind it
  pub staged_alone : (v : ℕ → ℕ → ℕ → ℕ) (mid out' : List ℕ) → SolvedIfLost g v 0 out mid → SolvedIfLost g v 1 mid out' → Staged g v out'
  staged_alone v mid out' one two zero d hs hc hd t ht = at (dec_lt (column_of g 1) g.shape.n) ∙ (one.lost hc).column d hd t ht
    where
      at : Dec (column_of g 1 < g.shape.n) → get_or out' (spot g 0 d + t) 0 ≡ get_or mid (spot g 0 d + t) 0
      at (yes z) =
          (two.lost z).rest (spot g 0 d + t) (inl (omega (arith, front g.shape r.good d hd, base_zero g r.good r.one_is r.two_is, base_one g r.good r.one_is r.two_is)))
      at (no z) = ap (λ (o : List ℕ). get_or o (spot g 0 d + t) 0) (two.kept (omega arith))
  staged_alone v mid out' one two (suc zero) d hs hc hd t ht = (two.lost hc).column d hd t ht
  staged_alone v mid out' one two (suc (suc i)) d hs hc hd t ht = absurd (omega arith)
