-- Laws of sums of numbers. To cite: total_none and total_more for a loop that adds up; then equal terms, no term, two stretches, a bound.
use mathlib.Core.Path.{◌≡◌, refl, sym, ap, ap₂, ◌∙◌}
use Prim.Native.Nat.{ℕ, zero, suc, ◌+◌, ◌*◌, ◌≤◌, ◌<◌}
use native.Mathlib.Numerals.{add-one}
use native.Mathlib.Omega.{arith}
use Rattle.xor.specs.Total.{total}

-- nothing is added yet
pub total_none : (f : ℕ → ℕ) → 0 ≡ total 0 f
unfolding total
total_none f = refl

-- one term more
pub total_more : (f : ℕ → ℕ) (k : ℕ) {s b : ℕ} → s ≡ total k f → b ≡ f k → s + b ≡ total (k + 1) f
unfolding total
total_more f k e h = ap₂ (λ (x y : ℕ). x + y) e h ∙ ap (λ (j : ℕ). total j f) (sym (add-one k))

pub total_same : (k : ℕ) (f g : ℕ → ℕ) → ((i : ℕ) → i < k → f i ≡ g i) → total k f ≡ total k g
unfolding total
total_same zero f g h = refl
total_same (suc k) f g h = ap₂ (λ (x y : ℕ). x + y) (total_same k f g (λ i l. h i (omega arith))) (h k (omega arith))

pub total_zero : (k : ℕ) (f : ℕ → ℕ) → ((i : ℕ) → i < k → f i ≡ 0) → total k f ≡ 0
unfolding total
total_zero zero f h = refl
total_zero (suc k) f h = ap₂ (λ (x y : ℕ). x + y) (total_zero k f (λ i l. h i (omega arith))) (h k (omega arith))

-- one stretch after another
pub total_join : (a b : ℕ) (f : ℕ → ℕ) → total (a + b) f ≡ total a f + total b (λ t. f (a + t))
unfolding total
total_join a zero f = let e : a + 0 ≡ a = omega arith in ap (λ (j : ℕ). total j f) e ∙ (omega arith)
total_join a (suc b) f =
    let e : a + suc b ≡ suc (a + b) = omega arith in
    ap (λ (j : ℕ). total j f) e ∙ (omega (arith, total_join a b f))

pub total_le : (k c : ℕ) (f : ℕ → ℕ) → ((i : ℕ) → i < k → f i ≤ c) → total k f ≤ c * k
unfolding total
total_le zero c f h = omega arith
total_le (suc k) c f h = omega (arith, total_le k c f (λ i l. h i (omega arith)), h k (omega arith))
