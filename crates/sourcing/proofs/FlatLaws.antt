-- Laws of flat: a place replaced, the last one put where one is dropped, and the list of a chain.
use mathlib.Core.Path.{◌≡◌, refl, sym, ap, ap₂, ◌∙◌, subst}
use mathlib.Core.List.{List}
use Prim.Native.Nat.{ℕ, zero, suc, ◌+◌, ◌-◌, ◌*◌, ◌/◌, ◌≤◌, ◌<◌}
use native.Mathlib.Omega.{arith}
use native.Mathlib.Decide.{ℕ_discrete}
use lib.ListN.{length, get_or, set}
use lib.Seq.{get_or-set_same, get_or-set_other}
use Rattle.xor.specs.Xor.{◌⊕◌, xors}
use Rattle.xor.proofs.XorLaws.{⊕_laws}
use Rattle.shape.specs.declared.Shape.{Shape}
use Rattle.shape.specs.Good.{Good, size}
use Rattle.shape.specs.Place.{place, byte}
use Rattle.shape.specs.Step.{left, right}
use Rattle.shape.proofs.Fits.{place_ends}
use Rattle.shape.proofs.GoodLaws.{good_m, good_room}
use Rattle.shape.proofs.Spans.{place_add}
use Rattle.shape.proofs.StepLaws.{left_lt, right_lt}
use Rattle.rule.specs.Rule.{others}
use Rattle.listing.specs.Places.{Laid}
use Rattle.summing.specs.Sums.{flat}
use Rattle.summing.proofs.SumsLaws.{entry, flat_none, flat_suc, flat_two}

-- all but the last two by the loop, the last two at the start
pub top_at : (s l : List ℕ) (t k : ℕ) → (entry s l t k ⊕ entry s l t (k + 1)) ⊕ flat s l t k ≡ flat s l t (k + 2)
top_at s l t k = sym (flat_two s l t k ∙ simp ⊕_laws)

pub next_at : (s l : List ℕ) (t k v : ℕ) → (entry s l t k ⊕ v) ⊕ flat s l t k ≡ flat s l t (k + 1) ⊕ v
next_at s l t k v = sym (ap (λ (z : ℕ). z ⊕ v) (flat_suc s l t k) ∙ simp ⊕_laws)

-- ---- a place replaced

module _ (s l : List ℕ) (t j v : ℕ) (hj : j < length l) where
  set_past : (k : ℕ) → k ≤ j → flat s (set l j v) t k ≡ flat s l t k
  unfolding flat
  set_past zero h = refl
  set_past (suc k) h = ap₂ ◌⊕◌ (set_past k (omega arith)) (ap (λ (z : ℕ). get_or s (z + t) 0) (get_or-set_other l j k v 0 (λ q. omega arith)))

  again : (a b c : ℕ) → a ⊕ c ≡ (a ⊕ b) ⊕ (b ⊕ c)
  again a b c = simp ⊕_laws

  move : (a b c d : ℕ) → (a ⊕ (b ⊕ c)) ⊕ d ≡ (a ⊕ d) ⊕ (b ⊕ c)
  move a b c d = simp ⊕_laws

  pub flat_set : (k : ℕ) → j < k → flat s (set l j v) t k ≡ flat s l t k ⊕ (entry s l t j ⊕ get_or s (v + t) 0)
  unfolding flat
  flat_set zero h = absurd (omega arith)
  flat_set (suc k) h = at (ℕ_discrete j k) (flat_set k)
    where
      at : Dec (j ≡ k) → (j < k → flat s (set l j v) t k ≡ flat s l t k ⊕ (entry s l t j ⊕ get_or s (v + t) 0))
          → flat s (set l j v) t (suc k) ≡ flat s l t (suc k) ⊕ (entry s l t j ⊕ get_or s (v + t) 0)
      at (yes e) ih =
          subst (λ (i : ℕ). flat s (set l j v) t i ⊕ entry s (set l j v) t i ≡ (flat s l t i ⊕ entry s l t i) ⊕ (entry s l t j ⊕ get_or s (v + t) 0)) e
          (ap₂ ◌⊕◌ (set_past j (omega arith)) (ap (λ (z : ℕ). get_or s (z + t) 0) (get_or-set_same l j v 0 hj)) ∙ again (flat s l t j) (entry s l t j) (get_or s (v + t) 0))
      at (no ne) ih =
          ap₂ ◌⊕◌ (ih (omega arith)) (ap (λ (z : ℕ). get_or s (z + t) 0) (get_or-set_other l j k v 0 (λ q. ne (sym q))))
          ∙ move (flat s l t k) (entry s l t j) (get_or s (v + t) 0) (entry s l t k)

-- the last place put where one is dropped
pub flat_drop : (s l : List ℕ) (t j k : ℕ) → k < length l → j ≤ k → flat s (set l j (get_or l k 0)) t k ≡ flat s l t (k + 1) ⊕ entry s l t j
flat_drop s l t j k hk h = at (ℕ_discrete j k)
  where
    swap : (a b c : ℕ) → a ⊕ (b ⊕ c) ≡ (a ⊕ c) ⊕ b
    swap a b c = simp ⊕_laws

    twice : (a b : ℕ) → a ≡ (a ⊕ b) ⊕ b
    twice a b = simp ⊕_laws

    at : Dec (j ≡ k) → flat s (set l j (get_or l k 0)) t k ≡ flat s l t (k + 1) ⊕ entry s l t j
    at (yes e) =
        set_past s l t j (get_or l k 0) (omega arith) k (omega arith) ∙ twice (flat s l t k) (entry s l t k)
        ∙ ap₂ ◌⊕◌ (sym (flat_suc s l t k)) (ap (entry s l t) (sym e))
    at (no ne) =
        flat_set s l t j (get_or l k 0) (omega arith) k (omega arith) ∙ swap (flat s l t k) (entry s l t j) (entry s l t k)
        ∙ ap (λ (z : ℕ). z ⊕ entry s l t j) (sym (flat_suc s l t k))

-- ---- the list of a chain

-- a byte of the stripe by the place that the list has of its symbol
pub symbol_at : (sh : Shape) (s : List ℕ) (d c t : ℕ) {a : ℕ} → a ≡ place sh d c 0 → get_or s (a + t) 0 ≡ byte sh s t d c
unfolding byte
symbol_at sh s d c t e = ap (λ (z : ℕ). get_or s z 0) (ap (λ (a : ℕ). a + t) e ∙ place_add sh d c 0 t ∙ ap (place sh d c) (omega arith))

module _ (sh : Shape) (good : Good sh) (l : List ℕ) (p : ℕ) (hp : p < sh.n) (c : Laid sh p l) where
  module _ (s : List ℕ) (t : ℕ) where
    pub left_entry : (d : ℕ) → 1 ≤ d → d < sh.m → entry s l t (2 * d - 2) ≡ byte sh s t d (left sh.n p d)
    left_entry d lo hi = symbol_at sh s d (left sh.n p d) t (c.information.lefts d lo hi)

    pub right_entry : (d : ℕ) → 1 ≤ d → d < sh.m → entry s l t (2 * d - 1) ≡ byte sh s t d (right sh.n p d)
    right_entry d lo hi = symbol_at sh s d (right sh.n p d) t (c.information.rights d lo hi)

    pub parity_entry : entry s l t (2 * sh.m - 2) ≡ byte sh s t 0 p
    parity_entry = symbol_at sh s 0 p t c.parity

    to : (k : ℕ) → k < sh.m → flat s l t (2 * k) ≡ xors k (λ d. byte sh s t d (left sh.n p d) ⊕ byte sh s t d (right sh.n p d))
    unfolding xors
    to zero h = flat_none s l t
    to (suc k) h =
        let e : 2 * suc k ≡ 2 * k + 2 = omega arith in
        let e1 : 2 * k ≡ 2 * suc k - 2 = omega arith in
        let e2 : 2 * k + 1 ≡ 2 * suc k - 1 = omega arith in
        ap (flat s l t) e ∙ flat_two s l t (2 * k)
        ∙ ap₂ ◌⊕◌ (to k (omega arith)) (ap₂ ◌⊕◌ (ap (entry s l t) e1 ∙ left_entry (suc k) (omega arith) h) (ap (entry s l t) e2 ∙ right_entry (suc k) (omega arith) h))

    pub flat_others : flat s l t (2 * sh.m - 2) ≡ others sh.m sh.n (byte sh s t) p
    unfolding others
    flat_others =
        let e : 2 * sh.m - 2 ≡ 2 * (sh.m - 1) = omega (arith, good.m_fits.0) in
        ap (flat s l t) e ∙ to (sh.m - 1) (omega (arith, good.m_fits.0))

  -- each of its symbols ends inside the stripe
  pub laid_ends : (i : ℕ) → i < 2 * sh.m - 1 → get_or l i 0 + sh.w ≤ size sh
  laid_ends i h = at (ℕ_discrete i (2 * sh.m - 2)) (ℕ_discrete i (2 * (i / 2)))
    where
      room : sh.m ≤ sh.n
      room = omega (arith, good_room sh good, good_m sh good)

      at : Dec (i ≡ 2 * sh.m - 2) → Dec (i ≡ 2 * (i / 2)) → get_or l i 0 + sh.w ≤ size sh
      at (yes e) q = let f : get_or l i 0 ≡ place sh 0 p 0 = ap (λ (j : ℕ). get_or l j 0) e ∙ c.parity in omega (arith, place_ends sh good 0 p (good_m sh good) hp)
      at (no ne) (yes e) =
          let d = i / 2 + 1 in
          let g : i ≡ 2 * d - 2 = omega arith in
          let f : get_or l i 0 ≡ place sh d (left sh.n p d) 0 = ap (λ (j : ℕ). get_or l j 0) g ∙ c.information.lefts d (omega arith) (omega arith) in
          omega (arith, place_ends sh good d (left sh.n p d) (omega arith) (left_lt sh.n p d hp (omega (arith, room))))
      at (no ne) (no o) =
          let d = i / 2 + 1 in
          let g : i ≡ 2 * d - 1 = omega arith in
          let f : get_or l i 0 ≡ place sh d (right sh.n p d) 0 = ap (λ (j : ℕ). get_or l j 0) g ∙ c.information.rights d (omega arith) (omega arith) in
          omega (arith, place_ends sh good d (right sh.n p d) (omega arith) (right_lt sh.n p d hp (omega (arith, room))))
