-- Laws of the rule: a chain holds where its XOR is 0; each symbol is in two chains, and a chain's symbols are in different columns (2m-1 ≤ n).
use mathlib.Core.Path.{◌≡◌, refl, sym, ap, ◌∙◌}
use mathlib.Core.Logic.{◌↔◌, ◌≢◌, ◌⊎◌, inl, inr}
use mathlib.Core.Bool.{Bool, true, false, cond}
use mathlib.Core.List.{List}
use Prim.Native.Nat.{ℕ, ◌+◌, ◌≤◌, ◌<◌}
use native.Mathlib.Omega.{arith}
use native.Mathlib.Decide.{map_dec, ℕ_discrete}
use lib.Dec.{eqb}
use borrow.Author.Tests.{eq-eqb, ne_eqb}
use Rattle.xor.specs.Xor.{◌⊕◌}
use Rattle.xor.proofs.XorLaws.{⊕_zero_l, ⊕_eq, ⊕_same}
use Rattle.shape.specs.declared.Shape.{Shape}
use Rattle.shape.specs.Step.{left, right}
use Rattle.shape.proofs.StepLaws.{reach₂, left_reach, right_reach, left_zero}
use Rattle.rule.specs.Rule.{Grid, others, chain, Obeys, differs, mark}
use Rattle.rule.proofs.Decide.{every?}
use Rattle.rule.proofs.ChainLaws.{chain_cong}
use Rattle.rule.proofs.Only.{only, only_left, only_right, only_away, only_cases}

-- ---- a stripe obeys the rule exactly when no chain differs

pub obeys_differs : (sh : Shape) (s : List ℕ) → Obeys sh s ↔ ((p t : ℕ) → p < sh.n → t < sh.w → differs sh s p t ≡ 0)
unfolding differs chain
obeys_differs sh s = (
  (λ ob p t hp ht. ⊕_same _ _ (ob.rule p t hp ht)),
  (λ h. record { rule = λ p t hp ht. ⊕_eq _ _ (h p t hp ht) }),
)

pub obeys? : (sh : Shape) (s : List ℕ) → Dec (Obeys sh s)
obeys? sh s = map_dec (λ h. (obeys_differs sh s).1 (λ p t hp ht. h p hp t ht)) (λ ob p hp t ht. (obeys_differs sh s).0 ob p t hp ht)
    (every? sh.n (λ p. (t : ℕ) → t < sh.w → differs sh s p t ≡ 0) (λ p hp. every? sh.w (λ t. differs sh s p t ≡ 0) (λ t ht. ℕ_discrete _ _)))

-- ---- chains

module _ (m n : ℕ) (room : m + m ≤ n + 1) where
  pub chain_apart : (p d e : ℕ) → p < n → d < m → e < m
      → (left n p d ≡ left n p e → d ≡ e) × (right n p d ≡ right n p e → d ≡ e) × (left n p d ≡ right n p e → (d ≡ 0) × (e ≡ 0)) × (left n p 0 ≡ p)
  chain_apart p d e hp hd he =
      let D = left_reach n p d hp (omega arith) in let E = left_reach n p e hp (omega arith) in
      let F = right_reach n p d hp (omega arith) in let G = right_reach n p e hp (omega arith) in (
        (λ z. reach₂ D E (λ u v. omega arith) (λ u v. omega arith) (λ u v. omega arith) (λ u v. omega arith)),
        (λ z. reach₂ F G (λ u v. omega arith) (λ u v. omega arith) (λ u v. omega arith) (λ u v. omega arith)),
        (λ z. reach₂ D G (λ u v. (omega arith, omega arith)) (λ u v. (omega arith, omega arith)) (λ u v. (omega arith, omega arith)) (λ u v. (omega arith, omega arith))),
        left_zero n p hp,
      )

  module _ (d c p : ℕ) (lo : 1 ≤ d) (hd : d < m) (hc : c < n) (hp : p < n) where
    -- the mark is a column alone
    ones_at : Grid
    ones_at e j = cond (eqb e d) 1 0

    mark_only : (e j : ℕ) → mark d c e j ≡ only c ones_at e j
    unfolding mark only ones_at
    mark_only e j = at (eqb e d) (eqb j c) 1
      where
        at : (a b : Bool) (x : ℕ) → cond a (cond b x 0) 0 ≡ cond b (cond a x 0) 0
        at true true x = refl
        at true false x = refl
        at false true x = refl
        at false false x = refl

    mark_chain : others m n (mark d c) p ≡ chain m n (only c ones_at) p
    unfolding chain mark
    mark_chain =
        sym (⊕_zero_l _)
        ∙ ap (λ (z : ℕ). z ⊕ others m n (mark d c) p) (sym (rw (ne_eqb 0 d (λ e. omega arith))))
        ∙ chain_cong m n (omega arith) p hp (omega arith) (mark d c) (only c ones_at) (λ e j he hj. mark_only e j)

    hit : ones_at d c ≡ 1
    unfolding ones_at
    hit = rw (eq-eqb d d refl)

    miss : (e : ℕ) → e ≢ d → ones_at e c ≡ 0
    unfolding ones_at
    miss e ne = rw (ne_eqb e d ne)

    pub mark_in : (p ≡ left n c d) ⊎ (p ≡ right n c d) → others m n (mark d c) p ≡ 1
    mark_in (inl e) = mark_chain ∙ ap (chain m n (only c ones_at)) e ∙ only_left m n room (omega arith) c hc ones_at d hd ∙ hit
    mark_in (inr e) = mark_chain ∙ ap (chain m n (only c ones_at)) e ∙ only_right m n room (omega arith) c hc ones_at d hd ∙ hit

    pub mark_out : p ≢ left n c d → p ≢ right n c d → others m n (mark d c) p ≡ 0
    mark_out f g = mark_chain ∙ only_cases m n c p
        (λ e he z. ap (chain m n (only c ones_at)) z ∙ only_left m n room (omega arith) c hc ones_at e he ∙ miss e (λ y. f (z ∙ ap (left n c) y)))
        (λ e he z. ap (chain m n (only c ones_at)) z ∙ only_right m n room (omega arith) c hc ones_at e he ∙ miss e (λ y. g (z ∙ ap (right n c) y)))
        (only_away m n room (omega arith) c hc ones_at p hp)
