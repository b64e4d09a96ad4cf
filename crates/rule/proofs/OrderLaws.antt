-- Laws of walk, first and second: whichever way two columns are named, first and second are the two, and the walk between them is the shorter.
use mathlib.Core.Path.{◌≡◌, refl}
use mathlib.Core.Logic.{◌≢◌, Ne-symm, ◌⊎◌, inl, inr, ⊎_elim}
use mathlib.Core.Bool.{Bool, true, false, cond}
use Prim.Native.Nat.{ℕ, ◌+◌, ◌-◌, ◌*◌, ◌≤◌, ◌<◌}
use native.Mathlib.Omega.{arith}
use native.Mathlib.Decide.{dec_lt}
use lib.Dec.{eqb, ltb}
use borrow.Author.Tests.{eq-eqb, ne_eqb, lt-ltb, le-ltb}
use Rattle.shape.specs.Step.{left, right}
use Rattle.shape.proofs.StepLaws.{Reach, reach₂, turn, right_lt, right_reach}
use Rattle.rule.specs.Outer.{walk, first, second}

-- a walk upward is a step to the left
pub walk_left : (n a b : ℕ) → left n b a ≡ walk n a b
unfolding walk left
walk_left n a b = refl

module _ (n a b : ℕ) (ha : a < n) (hb : b < n) where
  pub walk_lt : walk n a b < n
  unfolding walk
  walk_lt = (turn n (b + (n - a)) (omega arith)).0

  pub walk_reach : Reach n a (walk n a b) b
  unfolding walk
  walk_reach = ⊎_elim (λ h. inr (omega arith)) (λ h. inl (omega arith)) (turn n (b + (n - a)) (omega arith)).1

  pub walk_pos : a ≢ b → 1 ≤ walk n a b
  walk_pos ne = ⊎_elim (λ h. omega arith) (λ h. omega arith) walk_reach

  pub walk_ends : right n a (walk n a b) ≡ b
  walk_ends =
      let l = walk_lt in let k : right n a (walk n a b) < n = right_lt n a (walk n a b) ha l in
      reach₂ walk_reach (right_reach n a (walk n a b) ha l) (λ u v. omega arith) (λ u v. omega arith) (λ u v. omega arith) (λ u v. omega arith)

-- there and back is once round
pub walk_round : (n a b : ℕ) → a < n → b < n → a ≢ b → walk n a b + walk n b a ≡ n
walk_round n a b ha hb ne =
    let p = walk_lt n a b ha hb in let q = walk_lt n b a hb ha in
    reach₂ (walk_reach n a b ha hb) (walk_reach n b a hb ha) (λ u v. omega arith) (λ u v. omega arith) (λ u v. omega arith) (λ u v. omega arith)

-- f is first and g second: the two columns in one order or the other, the walk from f up to g being at most n/2
abbrev pub Ordered : ℕ → ℕ → ℕ → ℕ → ℕ → Type 0
Ordered n a b f g = (f ≡ a) × (g ≡ b) × (2 * walk n a b ≤ n)

pub order : (n a b : ℕ) → a < n → b < n → a ≢ b → Ordered n a b (first n a b) (second n a b) ⊎ Ordered n b a (first n a b) (second n a b)
unfolding first second
order n a b ha hb ne = at (dec_lt (walk n a b) (walk n b a)) (dec_lt (walk n b a) (walk n a b)) (dec_lt a b)
  where
    round : walk n a b + walk n b a ≡ n
    round = walk_round n a b ha hb ne

    at : Dec (walk n a b < walk n b a) → Dec (walk n b a < walk n a b) → Dec (a < b)
        → Ordered n a b (first n a b) (second n a b) ⊎ Ordered n b a (first n a b) (second n a b)
    at (yes p) q r = inl (rw (lt-ltb (walk n a b) (walk n b a) p, eq-eqb a a refl) (refl, refl, omega (arith, round)))
    at (no p) (yes q) r =
        inr (rw (le-ltb (walk n a b) (walk n b a) (omega arith), lt-ltb (walk n b a) (walk n a b) q, ne_eqb b a (Ne-symm ne)) (refl, refl, omega (arith, round)))
    at (no p) (no q) (yes r) =
        inl (rw (le-ltb (walk n a b) (walk n b a) (omega arith), le-ltb (walk n b a) (walk n a b) (omega arith), lt-ltb a b r, eq-eqb a a refl)
        (refl, refl, omega (arith, round)))
    at (no p) (no q) (no r) =
        inr (rw (le-ltb (walk n a b) (walk n b a) (omega arith), le-ltb (walk n b a) (walk n a b) (omega arith), le-ltb a b (omega arith), ne_eqb b a (Ne-symm ne))
        (refl, refl, omega (arith, round)))

-- they do not go by the order of the names
module _ (n a b : ℕ) (ne : a ≢ b) where
  pub first_either : first n a b ≡ first n b a
  unfolding first
  first_either = at (dec_lt (walk n a b) (walk n b a)) (dec_lt (walk n b a) (walk n a b)) (dec_lt a b)
    where
      at : Dec (walk n a b < walk n b a) → Dec (walk n b a < walk n a b) → Dec (a < b) → first n a b ≡ first n b a
      at (yes p) q r = rw (lt-ltb (walk n a b) (walk n b a) p, le-ltb (walk n b a) (walk n a b) (omega arith))
      at (no p) (yes q) r = rw (le-ltb (walk n a b) (walk n b a) (omega arith), lt-ltb (walk n b a) (walk n a b) q)
      at (no p) (no q) (yes r) =
          rw (le-ltb (walk n a b) (walk n b a) (omega arith), le-ltb (walk n b a) (walk n a b) (omega arith), lt-ltb a b r, le-ltb b a (omega arith))
      at (no p) (no q) (no r) =
          rw (le-ltb (walk n a b) (walk n b a) (omega arith), le-ltb (walk n b a) (walk n a b) (omega arith), le-ltb a b (omega arith), lt-ltb b a (omega arith))

  pub first_in : (first n a b ≡ a) ⊎ (first n a b ≡ b)
  unfolding first
  first_in = at (ltb (walk n a b) (walk n b a)) (ltb (walk n b a) (walk n a b)) (ltb a b)
    where
      at : (x y z : Bool) → (cond x a (cond y b (cond z a b)) ≡ a) ⊎ (cond x a (cond y b (cond z a b)) ≡ b)
      at true y z = inl refl
      at false true z = inr refl
      at false false true = inl refl
      at false false false = inr refl

  pub second_either : second n a b ≡ second n b a
  unfolding second
  second_either = rw (← first_either) (at first_in)
    where
      at : (first n a b ≡ a) ⊎ (first n a b ≡ b) → cond (eqb (first n a b) a) b a ≡ cond (eqb (first n a b) b) a b
      at (inl e) = rw (e, eq-eqb a a refl, ne_eqb a b ne)
      at (inr e) = rw (e, eq-eqb b b refl, ne_eqb b a (Ne-symm ne))
