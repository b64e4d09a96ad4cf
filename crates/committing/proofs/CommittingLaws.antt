-- Laws of the commit: of which symbol each store is, that no two are of the same, and what the stripe holds after some of them and after all.
-- To cite: made_long, made_new, made_rest; made_all.
use mathlib.Core.Path.{◌≡◌, refl, sym, ap, ◌∙◌, subst}
use mathlib.Core.Logic.{◌≢◌, ◌⊎◌, inl, inr}
use mathlib.Core.List.{List}
use Prim.Native.Nat.{ℕ, zero, suc, ◌+◌, ◌-◌, ◌*◌, ◌≤◌, ◌<◌}
use native.Mathlib.Omega.{arith}
use native.Mathlib.Decide.{dec_lt, ℕ_discrete}
use lib.ListN.{length, get_or, take, drop}
use lib.Seq.{get_or-take, get_or-drop}
use borrow.Author.Tests.{eq-eqb, ne_eqb, lt-ltb, le-ltb}
use Rattle.shape.specs.declared.Shape.{Shape}
use Rattle.shape.specs.Place.{place, byte}
use Rattle.storing.specs.Set.{Set}
use Rattle.solving.specs.declared.Gone.{Gone}
use Rattle.solving.specs.Outer.{column_of, base_of, spot}
use Rattle.agreeing.specs.Agreeing.{patched}
use Rattle.staging.specs.Reading.{Led}
use Rattle.staging.specs.Staging.{Stageable}
use Rattle.committing.specs.Committing.{side_at, height_at, column_at, staged_symbol, stores_of, stores_in_all, Made}
use Rattle.staging.proofs.StagingLaws.{spot_fits}

-- the symbol as the code cuts it out of the workspace
pub set_part : (sh : Shape) (s work s' : List ℕ) (d c at from : ℕ) → at ≡ from → Set sh s d c (take (at + sh.w - at) (drop at work)) s'
    → Set sh s d c (take sh.w (drop from work)) s'
set_part sh s work s' d c at from e u = let k : at + sh.w - at ≡ sh.w = omega arith in rw (k, e) at u

-- it lies in the workspace
module _ (g : Gone) (s work : List ℕ) (r : Stageable g s work) (d : ℕ) (hd : d < g.shape.m) where
  pub first_room : g.one + place g.shape d 0 0 + g.shape.w ≤ length work
  unfolding base_of
  first_room = (spot_fits g s work r 0 d (omega arith) hd).0

  pub second_room : g.two + place g.shape d 0 0 + g.shape.w ≤ length work
  unfolding base_of
  second_room = (spot_fits g s work r 1 d (omega arith) hd).0

module _ (g : Gone) where
  -- ---- how many stores there are

  pub stores_lost : (c : ℕ) → c < g.shape.n → stores_of g c ≡ g.shape.m
  unfolding stores_of
  stores_lost c h = rw (lt-ltb c g.shape.n h) refl

  pub stores_none : (c : ℕ) → g.shape.n ≤ c → stores_of g c ≡ 0
  unfolding stores_of
  stores_none c h = rw (le-ltb c g.shape.n h) refl

  pub stores_le : (c : ℕ) → stores_of g c ≤ g.shape.m
  stores_le c = at (dec_lt c g.shape.n)
    where
      at : Dec (c < g.shape.n) → stores_of g c ≤ g.shape.m
      at (yes h) = omega (arith, stores_lost c h)
      at (no h) = omega (arith, stores_none c (omega arith))

  -- ---- of which symbol each is: below m of first's, from m on of second's

  at_first : (k : ℕ) → k < g.shape.m → (side_at g k ≡ 0) × (height_at g k ≡ g.shape.m - 1 - k)
  unfolding side_at height_at
  at_first k h = rw (lt-ltb k g.shape.m h) (refl, refl)

  at_second : (k : ℕ) → g.shape.m ≤ k → (side_at g k ≡ 1) × (height_at g k ≡ 2 * g.shape.m - 1 - k)
  unfolding side_at height_at
  at_second k h = rw (le-ltb k g.shape.m h) (refl, refl)

  column_first : (k : ℕ) → k < g.shape.m → column_at g k ≡ g.first
  unfolding column_of
  column_first k h = rw (at_first k h).0 refl

  column_second : (k : ℕ) → g.shape.m ≤ k → column_at g k ≡ g.second
  unfolding column_of
  column_second k h = rw (at_second k h).0 refl

  module _ (s work s' : List ℕ) (k : ℕ) where
    -- the symbol of the commit's store k is stored
    abbrev pub StoredAt : Type 0
    StoredAt = Set g.shape s (height_at g k) (column_at g k) (staged_symbol g work (side_at g k) (height_at g k)) s'

    pub stored_first : k < g.shape.m
        → Set g.shape s (g.shape.m - 1 - k) g.first (take g.shape.w (drop (g.one + place g.shape (g.shape.m - 1 - k) 0 0) work)) s' → StoredAt
    unfolding column_of base_of
    stored_first h u = rw ((at_first k h).0, (at_first k h).1) u

    pub stored_second : g.shape.m ≤ k
        → Set g.shape s (2 * g.shape.m - 1 - k) g.second (take g.shape.w (drop (g.two + place g.shape (2 * g.shape.m - 1 - k) 0 0) work)) s' → StoredAt
    unfolding column_of base_of
    stored_second h u = rw ((at_second k h).0, (at_second k h).1) u

  -- ---- each is of a symbol of the stripe

  module _ (led : Led g) (k : ℕ) (hk : k < stores_in_all g) where
    pub first_lost : g.first < g.shape.n
    unfolding stores_in_all
    first_lost = at (dec_lt g.first g.shape.n) (dec_lt g.second g.shape.n)
      where
        at : Dec (g.first < g.shape.n) → Dec (g.second < g.shape.n) → g.first < g.shape.n
        at (yes h) l = h
        at (no h) (yes l) = led l
        at (no h) (no l) = absurd (omega (arith, stores_none g.first (omega arith), stores_none g.second (omega arith)))

    pub second_lost : g.shape.m ≤ k → (g.second < g.shape.n) × (k < 2 * g.shape.m)
    unfolding stores_in_all
    second_lost h = at (dec_lt g.second g.shape.n)
      where
        at : Dec (g.second < g.shape.n) → (g.second < g.shape.n) × (k < 2 * g.shape.m)
        at (yes l) = (l, omega (arith, stores_le g.first, stores_le g.second))
        at (no l) = absurd (omega (arith, stores_le g.first, stores_none g.second (omega arith)))

    store_in : (height_at g k < g.shape.m) × (column_at g k < g.shape.n)
    store_in = at (dec_lt k g.shape.m)
      where
        at : Dec (k < g.shape.m) → (height_at g k < g.shape.m) × (column_at g k < g.shape.n)
        at (yes h) = (omega (arith, (at_first k h).1), omega (arith, column_first k h, first_lost))
        at (no h) =
            let l : g.shape.m ≤ k = omega arith in
            let (p, q) = second_lost l in (omega (arith, (at_second k l).1), omega (arith, column_second k l))

  -- ---- after the first k stores

  module _ (s work : List ℕ) where
    pub made_long : (k : ℕ) (s' : List ℕ) → Made g work k s s' → length s' ≡ length s
    unfolding Made
    made_long zero s' e = ap length e
    made_long (suc k) s' (mid, before, u) = u.long ∙ made_long k mid before

    pub made_next : (k : ℕ) (mid s' : List ℕ) → Made g work k s mid → StoredAt mid work s' k → Made g work (k + 1) s s'
    unfolding Made
    made_next k mid s' before u = let e : suc k ≡ k + 1 = omega arith in subst (λ (z : ℕ). Made g work z s s') e (mid, before, u)

    -- a symbol of which none was is as it was
    pub made_rest : (k : ℕ) (s' : List ℕ) → Made g work k s s' → (d c t : ℕ) → d < g.shape.m → c < g.shape.n → t < g.shape.w
        → ((i : ℕ) → i < k → (d ≢ height_at g i) ⊎ (c ≢ column_at g i)) → byte g.shape s' t d c ≡ byte g.shape s t d c
    unfolding Made
    made_rest zero s' e d c t hd hc ht other = ap (λ (z : List ℕ). byte g.shape z t d c) e
    made_rest (suc k) s' (mid, before, u) d c t hd hc ht other =
        u.rest d c t hd hc ht (other k (omega arith)) ∙ made_rest k mid before d c t hd hc ht (λ i hi. other i (omega arith))

    module _ (led : Led g) (two : g.first < g.shape.n → g.first ≢ g.second) where
      -- no two stores are of one symbol
      stores_apart : (i k : ℕ) → i < k → k < stores_in_all g → (height_at g i ≢ height_at g k) ⊎ (column_at g i ≢ column_at g k)
      stores_apart i k l hk = at (dec_lt i g.shape.m) (dec_lt k g.shape.m)
        where
          at : Dec (i < g.shape.m) → Dec (k < g.shape.m) → (height_at g i ≢ height_at g k) ⊎ (column_at g i ≢ column_at g k)
          at (yes p) (yes q) = inl (λ e. omega (arith, (at_first i p).1, (at_first k q).1))
          at (yes p) (no q) = inr (λ e. two (first_lost led k hk) (sym (column_first i p) ∙ e ∙ column_second k (omega arith)))
          at (no p) q =
              inl (λ e. omega (arith, (at_second i (omega arith)).1, (at_second k (omega arith)).1, (second_lost led k hk (omega arith)).1))

      -- the symbol of each is the staged one
      pub made_new : (k : ℕ) → k ≤ stores_in_all g → (s' : List ℕ) → Made g work k s s' → (i : ℕ) → i < k → (t : ℕ) → t < g.shape.w
          → byte g.shape s' t (height_at g i) (column_at g i) ≡ get_or work (spot g (side_at g i) (height_at g i) + t) 0
      unfolding Made
      made_new zero hk s' e i hi t ht = absurd (omega arith)
      made_new (suc k) hk s' (mid, before, u) i hi t ht = at (ℕ_discrete i k) (λ h. made_new k (omega arith) mid before i h t ht)
        where
          staged : get_or (staged_symbol g work (side_at g k) (height_at g k)) t 0 ≡ get_or work (spot g (side_at g k) (height_at g k) + t) 0
          staged = get_or-take g.shape.w (drop (spot g (side_at g k) (height_at g k)) work) t 0 ht ∙ get_or-drop (spot g (side_at g k) (height_at g k)) work t 0

          new : ℕ → List ℕ → Type 0
          new i x = byte g.shape x t (height_at g i) (column_at g i) ≡ get_or work (spot g (side_at g i) (height_at g i) + t) 0

          at : Dec (i ≡ k) → (i < k → new i mid) → new i s'
          at (yes e) old = rw e (u.new t ht ∙ staged)
          at (no e) old =
              let (hd, hc) = store_in led i (omega arith) in
              u.rest _ _ t hd hc ht (stores_apart i k (omega arith) (omega arith)) ∙ old (omega arith)

      -- so after all of them each lost column is the staged one, and the stripe is as the workspace patches it
      module _ (s' : List ℕ) (all : Made g work (stores_in_all g) s s') (d t : ℕ) (hd : d < g.shape.m) (ht : t < g.shape.w) where
        all_first : g.first < g.shape.n → byte g.shape s' t d g.first ≡ get_or work (spot g 0 d + t) 0
        unfolding stores_in_all
        all_first h =
            let i = g.shape.m - 1 - d in
            let hi : i < g.shape.m = omega arith in
            let (p, q) = at_first i hi in
            let e : height_at g i ≡ d = omega arith in
            rw (e, column_first i hi, p) at (made_new (stores_in_all g) (omega arith) s' all i (omega (arith, stores_lost g.first h)) t ht)

        all_second : g.second < g.shape.n → byte g.shape s' t d g.second ≡ get_or work (spot g 1 d + t) 0
        unfolding stores_in_all
        all_second h =
            let i = 2 * g.shape.m - 1 - d in
            let hi : g.shape.m ≤ i = omega arith in
            let (p, q) = at_second i hi in
            let e : height_at g i ≡ d = omega arith in
            rw (e, column_second i hi, p) at
            (made_new (stores_in_all g) (omega arith) s' all i (omega (arith, stores_lost g.first (led h), stores_lost g.second h)) t ht)

        all_rest : (c : ℕ) → c < g.shape.n → c ≢ g.first → c ≢ g.second → byte g.shape s' t d c ≡ byte g.shape s t d c
        all_rest c hc p q = made_rest (stores_in_all g) s' all d c t hd hc ht (λ i hi. inr (other i (dec_lt i g.shape.m)))
          where
            other : (i : ℕ) → Dec (i < g.shape.m) → c ≢ column_at g i
            other i (yes h) e = p (e ∙ column_first i h)
            other i (no h) e = q (e ∙ column_second i (omega arith))

        all_patched : (c : ℕ) → c < g.shape.n → byte g.shape s' t d c ≡ patched g s work t d c
        unfolding patched
        all_patched c hc = at (ℕ_discrete c g.first) (ℕ_discrete c g.second)
          where
            at : Dec (c ≡ g.first) → Dec (c ≡ g.second) → byte g.shape s' t d c ≡ patched g s work t d c
            at (yes p) q = rw (p, eq-eqb g.first g.first refl) (all_first (omega arith))
            at (no p) (yes q) = rw (ne_eqb c g.first p, q, eq-eqb g.second g.second refl) (all_second (omega arith))
            at (no p) (no q) = rw (ne_eqb c g.first p, ne_eqb c g.second q) (all_rest c hc p q)

      pub made_all : (s' : List ℕ) → Made g work (stores_in_all g) s s'
          → (length s' ≡ length s) × ((d c t : ℕ) → d < g.shape.m → c < g.shape.n → t < g.shape.w → byte g.shape s' t d c ≡ patched g s work t d c)
      made_all s' all = (made_long (stores_in_all g) s' all, λ d c t hd hc ht. all_patched s' all d t hd ht c hc)
