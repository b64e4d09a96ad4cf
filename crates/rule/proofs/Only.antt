-- One column alone: of column c a chain sees one symbol, or none. All of it with 2m-1 ≤ n.
-- To cite: only_left, only_right, only_away for the chains to the left of c, to its right and away from it; only_cases to tell them apart.
use mathlib.Core.Path.{◌≡◌, sym, ap, ap₂, ◌∙◌, subst}
use mathlib.Core.Logic.{◌≢◌, inl, ⊎_elim}
use mathlib.Core.Bool.{cond}
use Prim.Native.Nat.{ℕ, zero, suc, ◌+◌, ◌-◌, ◌≤◌, ◌<◌}
use native.Mathlib.Omega.{arith}
use native.Mathlib.Decide.{ℕ_discrete}
use lib.Dec.{eqb}
use borrow.Author.Tests.{eq-eqb, ne_eqb}
use Rattle.xor.specs.Xor.{◌⊕◌}
use Rattle.xor.proofs.XorLaws.{⊕_zero_l, ⊕_zero_r}
use Rattle.xor.proofs.XorsLaws.{xors_none, xors_one}
use Rattle.shape.specs.Step.{left, right}
use Rattle.shape.proofs.StepLaws.{Reach, left_lt, left_reach, left_zero, right_lt, right_reach, left_is, left_not, left_not_right, right_is, right_not, right_not_left}
use Rattle.rule.specs.Rule.{Grid, others, chain}
use Rattle.rule.proofs.Decide.{some?}

-- column c of X alone
unfoldable pub only : ℕ → Grid → Grid
only c X d j = cond (eqb j c) (X d j) 0

pub only_here : (c : ℕ) (X : Grid) (d j : ℕ) → j ≡ c → only c X d j ≡ X d c
unfolding only
only_here c X d j e = rw (eq-eqb j c e) (ap (X d) e)

pub only_there : (c : ℕ) (X : Grid) (d j : ℕ) → j ≢ c → only c X d j ≡ 0
unfolding only
only_there c X d j ne = rw (ne_eqb j c ne)

-- height i of chain q is in neither of its columns c
abbrev Away : ℕ → ℕ → ℕ → ℕ → Type 0
Away n q c i = (left n q i ≢ c) × (right n q i ≢ c)

module _ (m n : ℕ) (room : m + m ≤ n + 1) (pos : 1 ≤ m) (X : Grid) (q c : ℕ) (hq : q < n) where
  none : (i : ℕ) → Away n q c i → only c X i (left n q i) ⊕ only c X i (right n q i) ≡ 0
  none i h = ap₂ ◌⊕◌ (only_there c X i (left n q i) h.0) (only_there c X i (right n q i) h.1) ∙ ⊕_zero_l 0

  -- no symbol of column c is in chain q
  pub only_none : ((i : ℕ) → i < m → Away n q c i) → chain m n (only c X) q ≡ 0
  unfolding chain others
  only_none h =
      ap₂ ◌⊕◌ (only_there c X 0 q (λ e. (h 0 pos).0 (left_zero n q hq ∙ e))) (xors_none (m - 1) _ (λ i lo hi. none i (h i (omega arith)))) ∙ ⊕_zero_l 0

  -- the parity symbol is
  only_parity : q ≡ c → ((i : ℕ) → 1 ≤ i → i < m → Away n q c i) → chain m n (only c X) q ≡ X 0 c
  unfolding chain others
  only_parity e h = ap₂ ◌⊕◌ (only_here c X 0 q e) (xors_none (m - 1) _ (λ i lo hi. none i (h i lo (omega arith)))) ∙ ⊕_zero_r (X 0 c)

  -- the symbol of height e is
  only_height : (e : ℕ) → 1 ≤ e → e < m → q ≢ c → ((i : ℕ) → 1 ≤ i → i < m → i ≢ e → Away n q c i)
      → only c X e (left n q e) ⊕ only c X e (right n q e) ≡ X e c → chain m n (only c X) q ≡ X e c
  unfolding chain others
  only_height e lo hi ne h v =
      ap₂ ◌⊕◌ (only_there c X 0 q ne)
      (xors_one (m - 1) (λ d. only c X d (left n q d) ⊕ only c X d (right n q d)) e lo (omega arith) (λ i lo' hi' ne'. none i (h i lo' (omega arith) ne')) ∙ v)
      ∙ ⊕_zero_l (X e c)

  module _ (hc : c < n) where
    -- c is e to the right of q: chain q has its symbol of height e, and no other of it
    pub hit_right : (e : ℕ) → e < m → Reach n q e c → chain m n (only c X) q ≡ X e c
    hit_right zero he r = only_parity (⊎_elim (λ u. omega arith) (λ u. omega arith) r) (λ i lo hi.
        (right_not_left m n q c 0 i room hq hc he hi r (omega arith), right_not m n q c 0 i room hq hc he hi r (omega arith)))
    hit_right (suc e) he r =
        only_height (suc e) (omega arith) he (⊎_elim (λ u. omega arith) (λ u. omega arith) r) (λ i lo hi ne.
        (right_not_left m n q c (suc e) i room hq hc he hi r (omega arith), right_not m n q c (suc e) i room hq hc he hi r ne))
        (ap₂ ◌⊕◌ (only_there c X (suc e) (left n q (suc e)) (right_not_left m n q c (suc e) (suc e) room hq hc he he r (omega arith)))
        (only_here c X (suc e) (right n q (suc e)) (right_is m n q c (suc e) (suc e) room hq hc he he r)) ∙ ⊕_zero_l (X (suc e) c))

    -- c is e to the left of q
    pub hit_left : (e : ℕ) → e < m → Reach n c e q → chain m n (only c X) q ≡ X e c
    hit_left zero he r = hit_right zero he (⊎_elim (λ u. inl (omega arith)) (λ u. absurd (omega arith)) r)
    hit_left (suc e) he r =
        only_height (suc e) (omega arith) he (⊎_elim (λ u. omega arith) (λ u. omega arith) r) (λ i lo hi ne.
        (left_not m n q c (suc e) i room hq hc he hi r ne, left_not_right m n q c (suc e) i room hq hc he hi r (omega arith)))
        (ap₂ ◌⊕◌ (only_here c X (suc e) (left n q (suc e)) (left_is m n q c (suc e) (suc e) room hq hc he he r))
        (only_there c X (suc e) (right n q (suc e)) (left_not_right m n q c (suc e) (suc e) room hq hc he he r (omega arith))) ∙ ⊕_zero_r (X (suc e) c))

-- ---- the chains by where they stand from column c

module _ (m n : ℕ) (room : m + m ≤ n + 1) (pos : 1 ≤ m) (c : ℕ) (hc : c < n) (X : Grid) where
  pub only_left : (d : ℕ) → d < m → chain m n (only c X) (left n c d) ≡ X d c
  only_left d hd = hit_right m n room pos X (left n c d) c (left_lt n c d hc (omega arith)) hc d hd (left_reach n c d hc (omega arith))

  pub only_right : (d : ℕ) → d < m → chain m n (only c X) (right n c d) ≡ X d c
  only_right d hd = hit_left m n room pos X (right n c d) c (right_lt n c d hc (omega arith)) hc d hd (right_reach n c d hc (omega arith))

  pub only_away : (p : ℕ) → p < n → ((d : ℕ) → d < m → (p ≢ left n c d) × (p ≢ right n c d)) → chain m n (only c X) p ≡ 0
  only_away p hp far = only_none m n room pos X p c hp (λ i hi. (
    (λ e. (far i hi).1 (sym (right_is m n c p i i room hc hp hi hi (subst (λ (j : ℕ). Reach n j i p) e (left_reach n p i hp (omega arith)))))),
    (λ e. (far i hi).0 (sym (left_is m n c p i i room hc hp hi hi (subst (Reach n p i) e (right_reach n p i hp (omega arith)))))),
  ))

-- chain p is to the left of c, to its right, or away from it
pub only_cases : {A : Type 0} (m n c p : ℕ) → ((d : ℕ) → d < m → p ≡ left n c d → A) → ((d : ℕ) → d < m → p ≡ right n c d → A)
    → (((d : ℕ) → d < m → (p ≢ left n c d) × (p ≢ right n c d)) → A) → A
only_cases {A} m n c p f g h = at (some? m (λ d. p ≡ left n c d) (λ d l. ℕ_discrete _ _)) (some? m (λ d. p ≡ right n c d) (λ d l. ℕ_discrete _ _))
  where
    at : Dec ((d : ℕ) × (d < m) × (p ≡ left n c d)) → Dec ((d : ℕ) × (d < m) × (p ≡ right n c d)) → A
    at (yes z) y = f z.0 z.1 z.2
    at (no z) (yes y) = g y.0 y.1 y.2
    at (no z) (no y) = h (λ d hd. ((λ e. z (d, hd, e)), (λ e. y (d, hd, e))))
