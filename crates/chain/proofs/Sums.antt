-- Sums along a chain, as the code makes them: a height more, the top height first, the two bytes by where they stand.
use mathlib.Core.Path.{◌≡◌, refl, sym, ap, ap₂, ◌∙◌}
use mathlib.Core.List.{List}
use Prim.Native.Nat.{ℕ, zero, suc, ◌+◌, ◌-◌, ◌≤◌}
use native.Mathlib.Nat.{add_assoc}
use native.Mathlib.Omega.{arith}
use lib.ListN.{get_or}
use Rattle.xor.specs.Xor.{◌⊕◌, xors}
use Rattle.xor.proofs.XorLaws.{⊕_assoc, ⊕_comm, ⊕_zero_r}
use Rattle.shape.specs.declared.Shape.{Shape}
use Rattle.shape.specs.Place.{place, byte}
use Rattle.shape.specs.Step.{left, right}
use Rattle.shape.proofs.Spans.{place_add}
use Rattle.rule.specs.Rule.{Grid, others, chain, differs}
use Rattle.chain.specs.Chain.{two}

module _ (f : ℕ → ℕ) where
  pub sums_none : (v : ℕ) → v ≡ v ⊕ xors (1 - 1) f
  unfolding xors
  sums_none v = sym (⊕_zero_r v)

  sums_suc : (d : ℕ) → 1 ≤ d → xors (d + 1 - 1) f ≡ xors (d - 1) f ⊕ f d
  unfolding xors
  sums_suc zero h = absurd (omega arith)
  sums_suc (suc d) h =
      let e : suc d + 1 - 1 ≡ suc d = omega arith in
      let g : d ≡ suc d - 1 = omega arith in
      ap (λ (k : ℕ). xors k f) e ∙ ap (λ (k : ℕ). xors k f ⊕ f (suc d)) g

  -- a height more
  pub sums_more : (d v : ℕ) {a b : ℕ} → 1 ≤ d → a ≡ v ⊕ xors (d - 1) f → b ≡ a ⊕ f d → b ≡ v ⊕ xors (d + 1 - 1) f
  sums_more d v h e1 e2 = e2 ∙ ap (λ (x : ℕ). x ⊕ f d) e1 ∙ ⊕_assoc v (xors (d - 1) f) (f d) ∙ ap (λ (x : ℕ). v ⊕ x) (sym (sums_suc d h))

-- the top height first, then the others below it
pub sums_top : (m n : ℕ) (X : Grid) (p : ℕ) {b : ℕ} → 2 ≤ m → b ≡ two n X p (m - 1) ⊕ xors (m - 1 - 1) (two n X p) → b ≡ others m n X p
unfolding others
sums_top m n X p h e =
    let q : m - 1 + 1 - 1 ≡ m - 1 = omega arith in
    e ∙ ⊕_comm _ _ ∙ sym (sums_suc (two n X p) (m - 1) (omega arith)) ∙ ap (λ (k : ℕ). xors k (two n X p)) q

-- a byte of the stripe that the code reads at a + from + t, a being where a symbol starts
pub byte_at : (sh : Shape) (s : List ℕ) (d c j from t : ℕ) {a : ℕ} → a ≡ place sh d j 0 → j ≡ c → get_or s (a + from + t) 0 ≡ byte sh s (from + t) d c
unfolding byte
byte_at sh s d c j from t {a} ea ej =
    ap (λ (k : ℕ). get_or s k 0) (add_assoc a from t ∙ ap (λ (k : ℕ). k + (from + t)) (ea ∙ ap (λ (i : ℕ). place sh d i 0) ej) ∙ place_add sh d c 0 (from + t)
    ∙ ap (place sh d c) (omega arith))

-- the two bytes that a turn adds
pub two_at : (sh : Shape) (s : List ℕ) (p d from t : ℕ) {a b l r : ℕ} → a ≡ place sh d l 0 → l ≡ left sh.n p d → b ≡ place sh d r 0 → r ≡ right sh.n p d
    → get_or s (a + from + t) 0 ⊕ get_or s (b + from + t) 0 ≡ two sh.n (byte sh s (from + t)) p d
two_at sh s p d from t ea el eb er = ap₂ ◌⊕◌ (byte_at sh s d _ _ from t ea el) (byte_at sh s d _ _ from t eb er)

-- the parity byte added to the top height, then the others below it
pub differs_top : (sh : Shape) (s : List ℕ) (p from t : ℕ) {a v b : ℕ} → 2 ≤ sh.m → a ≡ place sh 0 p 0
    → v ≡ two sh.n (byte sh s (from + t)) p (sh.m - 1) ⊕ get_or s (a + from + t) 0
    → b ≡ v ⊕ xors (sh.m - 1 - 1) (two sh.n (byte sh s (from + t)) p) → b ≡ differs sh s p (from + t)
unfolding differs chain
differs_top sh s p from t h ea ev eb =
    let X = byte sh s (from + t) in
    eb ∙ ap (λ (x : ℕ). x ⊕ xors (sh.m - 1 - 1) (two sh.n X p)) ev ∙ behind _ _ _
    ∙ ap₂ ◌⊕◌ (byte_at sh s 0 p p from t ea refl) (sums_top sh.m sh.n X p h refl)
  where
    behind : (x y z : ℕ) → x ⊕ y ⊕ z ≡ y ⊕ (x ⊕ z)
    behind x y z = ap (λ (u : ℕ). u ⊕ z) (⊕_comm x y) ∙ ⊕_assoc y x z
