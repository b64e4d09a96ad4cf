-- Tests that compute, and what each tells of a stripe: that it obeys or does not, agrees, holds bytes, is explained by no column.
use mathlib.Core.Path.{◌≡◌, refl, sym, ap, ap₂, ◌∙◌}
use mathlib.Core.Logic.{◌↔◌, ◌≢◌, ◌⊎◌, inl, inr}
use mathlib.Core.Bool.{Bool, true, false, not, ◌&&◌, ◌||◌, true≢false, and-eq-true_iff}
use mathlib.Core.List.{List}
use Prim.Native.Nat.{ℕ, zero, suc, ◌<◌}
use native.Mathlib.Omega.{arith}
use native.Mathlib.Decide.{ℕ_discrete}
use lib.ListN.{length, get_or}
use lib.Dec.{eqb, ltb}
use borrow.Author.Tests.{eqb-true, eqb-false, ltb-true, eq-eqb, ne_eqb, not-true}
use Rattle.shape.specs.declared.Shape.{Shape}
use Rattle.shape.specs.Place.{byte}
use Rattle.shape.specs.Step.{left, right}
use Rattle.shape.proofs.StepLaws.{left_zero, right_zero}
use Rattle.rule.specs.declared.Losses.{Losses}
use Rattle.rule.specs.declared.Losses.TheVariants.{None, One, Two}
use Rattle.rule.specs.Rule.{Obeys, differs}
use Rattle.rule.specs.Losses.{Lost, Agrees, Bytes}
use Rattle.rule.proofs.RuleLaws.{obeys_differs}
use Rattle.locating.specs.Locate.{Explains}

-- ---- a test of each number below k

unfoldable pub all : ℕ → (ℕ → Bool) → Bool
all zero f = true
all (suc k) f = all k f && f k

pub all_true : (k : ℕ) (f : ℕ → Bool) → (all k f ≡ true) ↔ ((i : ℕ) → i < k → f i ≡ true)
unfolding all
all_true zero f = ((λ e i h. absurd (omega arith)), (λ h. refl))
all_true (suc k) f = let ih = all_true k f in (
  (λ e i h. at i h (ℕ_discrete i k) ((and-eq-true_iff (all k f) (f k)).0 e) (λ z. ih.0 z i)),
  (λ h. ap₂ ◌&&◌ (ih.1 (λ i l. h i (omega arith))) (h k (omega arith))),
)
  where
    at : (i : ℕ) → i < suc k → Dec (i ≡ k) → (all k f ≡ true) × (f k ≡ true) → (all k f ≡ true → i < k → f i ≡ true) → f i ≡ true
    at i h (yes z) p ih = ap f z ∙ p.1
    at i h (no z) p ih = ih p.0 (omega arith)

module _ (sh : Shape) (s : List ℕ) where
  -- ---- obeys

  unfoldable pub obeys_test : Bool
  obeys_test = all sh.n (λ p. all sh.w (λ t. eqb (differs sh s p t) 0))

  pub obeys_by : obeys_test ≡ true → Obeys sh s
  unfolding obeys_test
  obeys_by e = (obeys_differs sh s).1 (λ p t hp ht. eqb-true _ _ ((all_true sh.w _).0 ((all_true sh.n _).0 e p hp) t ht))

  pub disobeys_by : obeys_test ≡ false → ¬ Obeys sh s
  unfolding obeys_test
  disobeys_by e h =
      true≢false (sym ((all_true sh.n _).1 (λ p hp. (all_true sh.w _).1 (λ t ht. eq-eqb _ _ ((obeys_differs sh s).0 h p t hp ht)))) ∙ e)

  -- ---- the chains to the left of column c hold

  unfoldable pub left_test : ℕ → Bool
  left_test c = all sh.m (λ d. all sh.w (λ t. eqb (differs sh s (left sh.n c d) t) 0))

  pub left_by : (c : ℕ) → left_test c ≡ true → (d t : ℕ) → d < sh.m → t < sh.w → differs sh s (left sh.n c d) t ≡ 0
  unfolding left_test
  left_by c e d t hd ht = eqb-true _ _ ((all_true sh.w _).0 ((all_true sh.m _).0 e d hd) t ht)

  -- ---- column c explains

  unfoldable pub pairs_test : ℕ → Bool
  pairs_test c = all sh.m (λ d. all sh.w (λ t. eqb (differs sh s (left sh.n c d) t) (differs sh s (right sh.n c d) t)))

  unfoldable pub away_test : ℕ → ℕ → Bool
  away_test c p = all sh.m (λ d. not (eqb p (left sh.n c d)) && not (eqb p (right sh.n c d)))

  unfoldable pub explains_test : ℕ → Bool
  explains_test c = pairs_test c && all sh.n (λ p. not (away_test c p) || all sh.w (λ t. eqb (differs sh s p t) 0))

  pub explains_by : (c : ℕ) → c < sh.n → Explains sh s c → explains_test c ≡ true
  unfolding explains_test pairs_test away_test
  explains_by c hc ex = (and-eq-true_iff (pairs_test c) _).1 (pairs, (all_true sh.n _).1 (λ p hp. at p hp (away_test c p) refl))
    where
      pair : (d t : ℕ) → d < sh.m → t < sh.w → differs sh s (left sh.n c d) t ≡ differs sh s (right sh.n c d) t
      pair zero t hd ht = ap (λ (p : ℕ). differs sh s p t) (left_zero sh.n c hc ∙ sym (right_zero sh.n c hc))
      pair (suc d) t hd ht = ex.pairs (suc d) t (omega arith) hd ht

      pairs : pairs_test c ≡ true
      pairs = (all_true sh.m _).1 (λ d hd. (all_true sh.w _).1 (λ t ht. eq-eqb _ _ (pair d t hd ht)))

      away : (p : ℕ) → away_test c p ≡ true → (d : ℕ) → d < sh.m → (p ≢ left sh.n c d) × (p ≢ right sh.n c d)
      away p e d hd =
          let z = (and-eq-true_iff _ _).0 ((all_true sh.m _).0 e d hd) in
          (eqb-false p _ (not-true _ z.0), eqb-false p _ (not-true _ z.1))

      at : (p : ℕ) → p < sh.n → (b : Bool) → away_test c p ≡ b → (not b || all sh.w (λ t. eqb (differs sh s p t) 0)) ≡ true
      at p hp true e = (all_true sh.w _).1 (λ t ht. eq-eqb _ _ (ex.outside p t hp ht (away p e)))
      at p hp false e = refl

-- ---- two stripes agree except where the mask says

unfoldable pub same_test : Shape → (ℕ → ℕ → Bool) → List ℕ → List ℕ → Bool
same_test sh mask x y = all sh.m (λ d. all sh.n (λ c. all sh.w (λ t. mask d c || eqb (byte sh x t d c) (byte sh y t d c))))

pub same_by : (sh : Shape) (mask : ℕ → ℕ → Bool) (x y : List ℕ) → same_test sh mask x y ≡ true
    → (d c t : ℕ) → d < sh.m → c < sh.n → t < sh.w → mask d c ≡ false → byte sh x t d c ≡ byte sh y t d c
unfolding same_test
same_by sh mask x y e d c t hd hc ht off =
    eqb-true _ _ (sym (ap (λ (b : Bool). b || eqb (byte sh x t d c) (byte sh y t d c)) off)
    ∙ (all_true sh.w _).0 ((all_true sh.n _).0 ((all_true sh.m _).0 e d hd) c hc) t ht)

unfoldable pub lost_test : Losses → ℕ → Bool
lost_test None c = false
lost_test (One a) c = eqb c a
lost_test (Two a b) c = eqb c a || eqb c b

lost_not : (lost : Losses) (c : ℕ) → ¬ Lost lost c → lost_test lost c ≡ false
unfolding lost_test
lost_not None c h = refl
lost_not (One a) c h = ne_eqb c a h
lost_not (Two a b) c h = ap₂ ◌||◌ (ne_eqb c a (λ z. h (inl z))) (ne_eqb c b (λ z. h (inr z)))

pub agrees_by : (sh : Shape) (lost : Losses) (s x : List ℕ) → same_test sh (λ d c. lost_test lost c) x s ≡ true → Agrees sh lost s x
agrees_by sh lost s x e = record { same = λ d c t hd hc ht k. same_by sh (λ d c. lost_test lost c) x s e d c t hd hc ht (lost_not lost c k) }

pub bytes_by : (x : List ℕ) → all (length x) (λ i. ltb (get_or x i 0) 256) ≡ true → Bytes x
bytes_by x e i h = ltb-true _ _ ((all_true (length x) _).0 e i h)

-- ---- the symbol of height k in column c, and the others

unfoldable pub struck_test : ℕ → ℕ → ℕ → ℕ → Bool
struck_test k c d j = eqb d k && eqb j c

pub struck_not : (k c d j : ℕ) → (d ≢ k) ⊎ (j ≢ c) → struck_test k c d j ≡ false
unfolding struck_test
struck_not k c d j (inl h) = ap (λ (b : Bool). b && eqb j c) (ne_eqb d k h)
struck_not k c d j (inr h) = ap (λ (b : Bool). eqb d k && b) (ne_eqb j c h) ∙ off (eqb d k)
  where
    off : (b : Bool) → (b && false) ≡ false
    off true = refl
    off false = refl
