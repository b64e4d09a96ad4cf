-- Laws of the bits that are 1: a number has none exactly where it is 0, and numbers have none together only where each is 0.
use mathlib.Core.Path.{◌≡◌, refl, ap, ◌∙◌}
use Prim.Native.Nat.{ℕ, zero, suc, ◌/◌, ◌%◌, ◌<◌}
use native.Mathlib.Omega.{arith}
use native.Mathlib.Nat.{div-add-mod'}
use native.Mathlib.Decide.{ℕ_discrete}
use lib.Arith.{bin_ind}
use lib.Count.{ones, ones_step}
use Rattle.xor.specs.Total.{total}

pub ones_zero : ones 0 ≡ 0
unfolding ones
ones_zero = refl

-- no bit of x is 1: x is 0
pub ones_none : (x : ℕ) → ones x ≡ 0 → x ≡ 0
ones_none = bin_ind (λ (x : ℕ). ones x ≡ 0 → x ≡ 0) (λ e. refl) (λ x half e.
    let low : x % 2 ≡ 0 = omega (arith, ones_step x) in
    let high : x / 2 ≡ 0 = half (omega (arith, ones_step x)) in omega (arith, div-add-mod' x 2))

-- a sum that is 0 has no other terms
pub total_clear : (k : ℕ) (f : ℕ → ℕ) → total k f ≡ 0 → (i : ℕ) → i < k → f i ≡ 0
unfolding total
total_clear zero f e i h = absurd (omega arith)
total_clear (suc k) f e i h = at (total_clear k f (omega arith) i) (ℕ_discrete i k)
  where
    at : (i < k → f i ≡ 0) → Dec (i ≡ k) → f i ≡ 0
    at ih (yes q) = ap f q ∙ (omega arith)
    at ih (no q) = ih (omega arith)
