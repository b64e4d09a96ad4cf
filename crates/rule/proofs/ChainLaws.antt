-- Laws of others and chain: they go by the symbols that a chain has, and they are linear.
use mathlib.Core.Path.{◌≡◌, ap₂, ◌∙◌}
use Prim.Native.Nat.{ℕ, ◌-◌, ◌≤◌, ◌<◌}
use native.Mathlib.Omega.{arith}
use Rattle.xor.specs.Xor.{◌⊕◌}
use Rattle.xor.proofs.XorLaws.{⊕_laws, ⊕_zero_l, ⊕_lt}
use Rattle.xor.proofs.XorsLaws.{xors_cong, xors_none, xors_xor, xors_lt}
use Rattle.shape.specs.Step.{left, right}
use Rattle.shape.proofs.StepLaws.{left_lt, right_lt}
use Rattle.rule.specs.Rule.{Grid, others, chain}

module _ (m n : ℕ) where
  pub others_xor : (X Y : Grid) (q : ℕ) → others m n (λ d j. X d j ⊕ Y d j) q ≡ others m n X q ⊕ others m n Y q
  unfolding others
  others_xor X Y q =
      xors_cong (m - 1) _ _ (λ i lo hi. simp ⊕_laws)
      ∙ xors_xor (m - 1) (λ d. X d (left n q d) ⊕ X d (right n q d)) (λ d. Y d (left n q d) ⊕ Y d (right n q d))

  pub chain_xor : (X Y : Grid) (q : ℕ) → chain m n (λ d j. X d j ⊕ Y d j) q ≡ chain m n X q ⊕ chain m n Y q
  unfolding chain
  chain_xor X Y q = rw (others_xor X Y q) (simp ⊕_laws)

  -- bytes give bytes
  pub chain_lt : (X : Grid) → ((d c : ℕ) → X d c < 256) → (q : ℕ) → chain m n X q < 256
  unfolding chain others
  chain_lt X h q = ⊕_lt _ _ (h 0 q) (xors_lt (m - 1) _ (λ i. ⊕_lt _ _ (h i _) (h i _)))

  module _ (fit : m ≤ n) (q : ℕ) (hq : q < n) where
    pub others_cong : (X Y : Grid) → ((d c : ℕ) → 1 ≤ d → d < m → c < n → X d c ≡ Y d c) → others m n X q ≡ others m n Y q
    unfolding others
    others_cong X Y h = xors_cong (m - 1) _ _ (λ d lo hi.
        ap₂ ◌⊕◌ (h d (left n q d) lo (omega arith) (left_lt n q d hq (omega arith))) (h d (right n q d) lo (omega arith) (right_lt n q d hq (omega arith))))

    pub chain_cong : 1 ≤ m → (X Y : Grid) → ((d c : ℕ) → d < m → c < n → X d c ≡ Y d c) → chain m n X q ≡ chain m n Y q
    unfolding chain
    chain_cong pos X Y h = ap₂ ◌⊕◌ (h 0 q pos hq) (others_cong X Y (λ d c lo hi hc. h d c hi hc))

    pub chain_none : 1 ≤ m → (X : Grid) → ((d c : ℕ) → d < m → c < n → X d c ≡ 0) → chain m n X q ≡ 0
    unfolding chain others
    chain_none pos X h =
        ap₂ ◌⊕◌ (h 0 q pos hq)
        (xors_none (m - 1) _ (λ d lo hi.
        ap₂ ◌⊕◌ (h d (left n q d) (omega arith) (left_lt n q d hq (omega arith))) (h d (right n q d) (omega arith) (right_lt n q d hq (omega arith)))
        ∙ ⊕_zero_l 0))
        ∙ ⊕_zero_l 0
