-- What is decided of each number below k is decided of all of them, and of some.
use mathlib.Core.Path.{◌≡◌, sym, subst}
use Prim.Native.Nat.{ℕ, zero, suc, ◌<◌}
use native.Mathlib.Omega.{arith}
use native.Mathlib.Decide.{ℕ_discrete}

pub every? : (k : ℕ) (P : ℕ → Type 0) → ((i : ℕ) → i < k → Dec (P i)) → Dec ((i : ℕ) → i < k → P i)
every? zero P h = yes (λ i l. absurd (omega arith))
every? (suc k) P h = at (h k (omega arith)) (every? k P (λ i l. h i (omega arith)))
  where
    at : Dec (P k) → Dec ((i : ℕ) → i < k → P i) → Dec ((i : ℕ) → i < suc k → P i)
    at (yes p) (yes q) = yes (λ i l. one i l (ℕ_discrete i k))
      where
        one : (i : ℕ) → i < suc k → Dec (i ≡ k) → P i
        one i l (yes e) = subst P (sym e) p
        one i l (no ne) = q i (omega arith)
    at (yes p) (no q) = no (λ z. q (λ i l. z i (omega arith)))
    at (no p) q = no (λ z. p (z k (omega arith)))

pub some? : (k : ℕ) (P : ℕ → Type 0) → ((i : ℕ) → i < k → Dec (P i)) → Dec ((i : ℕ) × (i < k) × P i)
some? zero P h = no (λ z. omega (arith, z.1))
some? (suc k) P h = at (h k (omega arith)) (some? k P (λ i l. h i (omega arith)))
  where
    at : Dec (P k) → Dec ((i : ℕ) × (i < k) × P i) → Dec ((i : ℕ) × (i < suc k) × P i)
    at (yes p) q = yes (k, omega arith, p)
    at (no p) (yes q) = yes (q.0, omega (arith, q.1), q.2)
    at (no p) (no q) = no (λ z. neither z.0 z.1 z.2 (ℕ_discrete z.0 k))
      where
        neither : (i : ℕ) → i < suc k → P i → Dec (i ≡ k) → ⊥
        neither i l r (yes e) = p (subst P e r)
        neither i l r (no ne) = q (i, omega arith, r)
