-- Laws of left and right: steps round the n columns. Proofs see no remainder, only `Reach`: two linear cases, each an omega.
-- To cite: left_lt, left_reach, left_zero, and the same of right; for a chain of heights below m, with 2m-1 ≤ n, right_is, right_not and their kin.
use mathlib.Core.Path.{◌≡◌, ◌∙◌}
use mathlib.Core.Logic.{◌≢◌, ◌⊎◌, inl, inr, ⊎_elim}
use Prim.Native.Nat.{ℕ, ◌+◌, ◌-◌, ◌%◌, ◌≤◌, ◌<◌}
use native.Mathlib.Nat.{mod-eq_of_lt, mod-eq-sub-mod}
use native.Mathlib.Omega.{arith}
use native.Mathlib.Decide.{dec_lt}
use Rattle.shape.specs.Step.{left, right}

-- b is e steps to the right of a, round n columns
abbrev pub Reach : ℕ → ℕ → ℕ → ℕ → Type 0
Reach n a e b = (a + e ≡ b) ⊎ (a + e ≡ b + n)

-- both splits at once
pub reach₂ : {A B C D P : Type 0} → A ⊎ B → C ⊎ D → (A → C → P) → (A → D → P) → (B → C → P) → (B → D → P) → P
reach₂ (inl a) (inl c) f g h k = f a c
reach₂ (inl a) (inr d) f g h k = g a d
reach₂ (inr b) (inl c) f g h k = h b c
reach₂ (inr b) (inr d) f g h k = k b d

-- a remainder of a number that goes round once at most
pub turn : (n x : ℕ) → x < n + n → (x % n < n) × Reach n 0 x (x % n)
turn n x hi = at (dec_lt x n)
  where
    at : Dec (x < n) → (x % n < n) × Reach n 0 x (x % n)
    at (yes h) = let e : x % n ≡ x = mod-eq_of_lt h in (omega arith, inl (omega arith))
    at (no h) = let e : x % n ≡ x - n = mod-eq-sub-mod (omega arith) ∙ mod-eq_of_lt (omega arith) in (omega arith, inr (omega arith))

module _ (n c d : ℕ) (hc : c < n) (hd : d < n) where
  pub right_lt : right n c d < n
  unfolding right
  right_lt = (turn n (c + d) (omega arith)).0

  pub right_reach : Reach n c d (right n c d)
  unfolding right
  right_reach = ⊎_elim (λ h. inl (omega arith)) (λ h. inr (omega arith)) (turn n (c + d) (omega arith)).1

  pub left_lt : left n c d < n
  unfolding left
  left_lt = (turn n (c + (n - d)) (omega arith)).0

  pub left_reach : Reach n (left n c d) d c
  unfolding left
  left_reach = ⊎_elim (λ h. inr (omega arith)) (λ h. inl (omega arith)) (turn n (c + (n - d)) (omega arith)).1

-- no step
pub left_zero : (n c : ℕ) → c < n → left n c 0 ≡ c
left_zero n c hc =
    let l : left n c 0 < n = left_lt n c 0 hc (omega arith) in ⊎_elim (λ h. omega arith) (λ h. omega arith) (left_reach n c 0 hc (omega arith))

pub right_zero : (n c : ℕ) → c < n → right n c 0 ≡ c
right_zero n c hc =
    let l : right n c 0 < n = right_lt n c 0 hc (omega arith) in ⊎_elim (λ h. omega arith) (λ h. omega arith) (right_reach n c 0 hc (omega arith))

-- ---- the columns of chain q at heights e and i, below m, where 2m-1 ≤ n

module _ (m n q c e i : ℕ) (room : m + m ≤ n + 1) (hq : q < n) (hc : c < n) (he : e < m) (hi : i < m) where
  -- c is e to the right of q
  pub right_is : Reach n q e c → right n q e ≡ c
  right_is r =
      let l : right n q e < n = right_lt n q e hq (omega arith) in
      reach₂ r (right_reach n q e hq (omega arith)) (λ u v. omega arith) (λ u v. omega arith) (λ u v. omega arith) (λ u v. omega arith)

  pub right_not : Reach n q e c → i ≢ e → right n q i ≢ c
  right_not r ne = reach₂ r (right_reach n q i hq (omega arith)) (λ u v. omega arith) (λ u v. omega arith) (λ u v. omega arith) (λ u v. omega arith)

  pub right_not_left : Reach n q e c → 1 ≤ i + e → left n q i ≢ c
  right_not_left r lo = reach₂ r (left_reach n q i hq (omega arith)) (λ u v. omega arith) (λ u v. omega arith) (λ u v. omega arith) (λ u v. omega arith)

  -- c is e to the left of q
  pub left_is : Reach n c e q → left n q e ≡ c
  left_is r =
      let l : left n q e < n = left_lt n q e hq (omega arith) in
      reach₂ r (left_reach n q e hq (omega arith)) (λ u v. omega arith) (λ u v. omega arith) (λ u v. omega arith) (λ u v. omega arith)

  pub left_not : Reach n c e q → i ≢ e → left n q i ≢ c
  left_not r ne = reach₂ r (left_reach n q i hq (omega arith)) (λ u v. omega arith) (λ u v. omega arith) (λ u v. omega arith) (λ u v. omega arith)

  pub left_not_right : Reach n c e q → 1 ≤ i + e → right n q i ≢ c
  left_not_right r lo = reach₂ r (right_reach n q i hq (omega arith)) (λ u v. omega arith) (λ u v. omega arith) (λ u v. omega arith) (λ u v. omega arith)

-- c is g to the right of q, and so far from it, either way, that no symbol of c is in chain q
module _ (m n q c g : ℕ) (hq : q < n) (r : Reach n q g c) (lo : m ≤ g) (hi : g + m ≤ n) where
  pub far : (i : ℕ) → i < m → (left n q i ≢ c) × (right n q i ≢ c)
  far i h = (
    reach₂ r (left_reach n q i hq (omega arith)) (λ u v. omega arith) (λ u v. omega arith) (λ u v. omega arith) (λ u v. omega arith),
    reach₂ r (right_reach n q i hq (omega arith)) (λ u v. omega arith) (λ u v. omega arith) (λ u v. omega arith) (λ u v. omega arith),
  )

-- going on, and going back
pub further : (n a d b e c : ℕ) → a < n → d + e < n → Reach n a d b → Reach n b e c → Reach n a (d + e) c
further n a d b e c ha h p r = reach₂ p r (λ u v. inl (omega arith)) (λ u v. inr (omega arith)) (λ u v. inr (omega arith)) (λ u v. absurd (omega arith))

pub back : (n a g b : ℕ) → g ≤ n → Reach n a g b → Reach n b (n - g) a
back n a g b h r = ⊎_elim (λ u. inr (omega arith)) (λ u. inl (omega arith)) r
