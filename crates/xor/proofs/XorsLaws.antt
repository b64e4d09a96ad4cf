-- Laws of XOR sums: equal terms, no term, one term, terms XORed, bytes.
use mathlib.Core.Path.{◌≡◌, refl, sym, ap, ap₂, ◌∙◌}
use mathlib.Core.Logic.{◌≢◌}
use Prim.Native.Nat.{ℕ, zero, suc, ◌≤◌, ◌<◌}
use native.Mathlib.Omega.{arith}
use native.Mathlib.Decide.{ℕ_discrete}
use Rattle.xor.specs.Xor.{◌⊕◌, xors}
use Rattle.xor.proofs.XorLaws.{⊕_laws, ⊕_zero_l, ⊕_zero_r, ⊕_lt}

pub xors_cong : (k : ℕ) (f g : ℕ → ℕ) → ((i : ℕ) → 1 ≤ i → i ≤ k → f i ≡ g i) → xors k f ≡ xors k g
unfolding xors
xors_cong zero f g h = refl
xors_cong (suc k) f g h = ap₂ ◌⊕◌ (xors_cong k f g (λ i lo hi. h i lo (omega arith))) (h (suc k) (omega arith) (omega arith))

pub xors_none : (k : ℕ) (f : ℕ → ℕ) → ((i : ℕ) → 1 ≤ i → i ≤ k → f i ≡ 0) → xors k f ≡ 0
unfolding xors
xors_none zero f h = refl
xors_none (suc k) f h = ap₂ ◌⊕◌ (xors_none k f (λ i lo hi. h i lo (omega arith))) (h (suc k) (omega arith) (omega arith)) ∙ ⊕_zero_l 0

pub xors_one : (k : ℕ) (f : ℕ → ℕ) (j : ℕ) → 1 ≤ j → j ≤ k → ((i : ℕ) → 1 ≤ i → i ≤ k → i ≢ j → f i ≡ 0) → xors k f ≡ f j
unfolding xors
xors_one zero f j lo hi h = absurd (omega arith)
xors_one (suc k) f j lo hi h = at (ℕ_discrete j (suc k)) (xors_one k f j lo)
  where
    at : Dec (j ≡ suc k) → (j ≤ k → ((i : ℕ) → 1 ≤ i → i ≤ k → i ≢ j → f i ≡ 0) → xors k f ≡ f j) → xors (suc k) f ≡ f j
    at (yes e) ih =
        ap₂ ◌⊕◌ (xors_none k f (λ i lo' hi'. h i lo' (omega arith) (omega arith))) (ap f (sym e)) ∙ ⊕_zero_l (f j)
    at (no ne) ih =
        ap₂ ◌⊕◌ (ih (omega arith) (λ i lo' hi' ne'. h i lo' (omega arith) ne')) (h (suc k) (omega arith) (omega arith) (omega arith)) ∙ ⊕_zero_r (f j)

pub xors_xor : (k : ℕ) (f g : ℕ → ℕ) → xors k (λ i. f i ⊕ g i) ≡ xors k f ⊕ xors k g
unfolding xors
xors_xor zero f g = sym (⊕_zero_l 0)
xors_xor (suc k) f g = rw (xors_xor k f g) (simp ⊕_laws)

pub xors_lt : (k : ℕ) (f : ℕ → ℕ) → ((i : ℕ) → f i < 256) → xors k f < 256
unfolding xors
xors_lt zero f h = omega arith
xors_lt (suc k) f h = ⊕_lt (xors k f) (f (suc k)) (xors_lt k f h) (h (suc k))
