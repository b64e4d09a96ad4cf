-- One symbol replaced: of height k in column c, by the bytes of x. What small write and raw store share.
use mathlib.Core.Path.{◌≡◌, refl, ap₂, ◌∙◌, sym}
use mathlib.Core.Logic.{◌≢◌, ◌⊎◌, inl, inr}
use mathlib.Core.Bool.{Bool, true, false, cond}
use mathlib.Core.List.{List, [], ◌∷◌}
use Prim.Native.Nat.{ℕ, ◌≤◌, ◌<◌}
use native.Mathlib.Omega.{arith}
use native.Mathlib.Decide.{dec_le, dec_lt, ℕ_discrete}
use lib.ListN.{length, get_or}
use lib.Dec.{eqb}
use borrow.Author.Tests.{eq-eqb, ne_eqb}
use mathlib.Core.Logic.Dec
use Rattle.shape.specs.declared.Shape.{Shape}
use Rattle.std.specs.Prelude.{Err}
use Rattle.answer.specs.declared.Refusal.TheVariants.{NoSuchPlace, BadBuffer}
use Rattle.shape.specs.Place.{byte}
use Rattle.answer.specs.Answers.{refusal_number, number}
use Rattle.answer.proofs.OutcomeLaws.{Ready, either?}
use Rattle.rule.specs.Rule.{Grid}

-- the grid of byte t with that symbol replaced
unfoldable pub struck : Shape → List ℕ → ℕ → ℕ → List ℕ → ℕ → Grid
struck sh s c k x t d j = cond (eqb d k) (cond (eqb j c) (get_or x t 0) (byte sh s t d j)) (byte sh s t d j)

pub struck_here : (sh : Shape) (s : List ℕ) (c k : ℕ) (x : List ℕ) (t : ℕ) → struck sh s c k x t k c ≡ get_or x t 0
unfolding struck
struck_here sh s c k x t = rw (eq-eqb k k refl, eq-eqb c c refl)

pub struck_there : (sh : Shape) (s : List ℕ) (c k : ℕ) (x : List ℕ) (t d j : ℕ) → (d ≢ k) ⊎ (j ≢ c) → struck sh s c k x t d j ≡ byte sh s t d j
unfolding struck
struck_there sh s c k x t d j (inl h) = rw (ne_eqb d k h)
struck_there sh s c k x t d j (inr h) = rw (ne_eqb j c h) (at (eqb d k))
  where
    at : (b : Bool) → cond b (byte sh s t d j) (byte sh s t d j) ≡ byte sh s t d j
    at true = refl
    at false = refl

-- two stripes with that symbol the same, and another symbol the same if it is another, have all the same
pub struck_same : (sh : Shape) (x y : List ℕ) (k c d j t : ℕ) → byte sh x t k c ≡ byte sh y t k c
    → ((d ≢ k) ⊎ (j ≢ c) → byte sh x t d j ≡ byte sh y t d j) → byte sh x t d j ≡ byte sh y t d j
struck_same sh x y k c d j t here there = at (ℕ_discrete d k) (ℕ_discrete j c)
  where
    at : Dec (d ≡ k) → Dec (j ≡ c) → byte sh x t d j ≡ byte sh y t d j
    at (yes p) (yes q) = ap₂ (byte sh x t) p q ∙ here ∙ sym (ap₂ (byte sh y t) p q)
    at (yes p) (no q) = there (inr q)
    at (no p) q = there (inl p)

-- the rows of their tables behind the stripe's, over how many rows may be written
module _ (n rows w c r : ℕ) (x : List ℕ) where
  pub struck_ready : Ready ((6, (n ≤ c) ⊎ (rows ≤ r)) ∷ (8, length x ≢ w) ∷ [])
  unfolding number refusal_number
  struck_ready = ((Err NoSuchPlace), refl, either? (dec_le n c) (dec_le rows r), λ p. ((Err BadBuffer), refl, Dec.not (ℕ_discrete (length x) w), λ q. tt))

  pub struck_lt : ¬ ((n ≤ c) ⊎ (rows ≤ r)) → (c < n) × (r < rows)
  struck_lt h = ((Dec.not-not (dec_lt c n)).0 (λ z. h (inl (omega arith))), (Dec.not-not (dec_lt r rows)).0 (λ z. h (inr (omega arith))))
