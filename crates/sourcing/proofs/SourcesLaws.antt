-- Laws of the sources of a lost symbol: what the list gives with the lost symbol's place taken by the parity symbol's, and the asked one's by the last.
use mathlib.Core.Path.{◌≡◌, refl, sym, ap, ap₂, ◌∙◌}
use mathlib.Core.Logic.{◌≢◌, ◌⊎◌, ⊎_elim}
use mathlib.Core.List.{List}
use Prim.Native.Nat.{ℕ, zero, suc, ◌+◌, ◌-◌, ◌*◌, ◌≤◌, ◌<◌}
use native.Mathlib.Omega.{arith}
use native.Mathlib.Decide.{ℕ_discrete}
use borrow.Author.Tests.{lt-ltb, le-ltb}
use lib.ListN.{length, get_or, set, length-set}
use lib.Seq.{get_or-set_same, get_or-set_other}
use Rattle.xor.specs.Xor.{◌⊕◌}
use Rattle.xor.proofs.XorLaws.{⊕_laws, ⊕_zero_r}
use Rattle.shape.specs.declared.Shape.{Shape}
use Rattle.shape.specs.Good.{Good, size}
use Rattle.shape.specs.Place.{byte}
use Rattle.shape.proofs.StepLaws.{left_zero, right_zero}
use Rattle.rule.specs.Rule.{others, chain}
use Rattle.listing.specs.Places.{Laid}
use Rattle.summing.specs.declared.Lies.TheVariants.{Stripe, Buffer}
use Rattle.summing.specs.Sums.{flat, summed}
use Rattle.sourcing.specs.Sources.{beside, besides, Sourced}
use Rattle.summing.proofs.SumsLaws.{entry}
use Rattle.sourcing.proofs.FlatLaws.{top_at, next_at, flat_set, flat_drop, left_entry, right_entry, parity_entry, flat_others, laid_ends}

-- the list with the lost symbol of height d on a side taken out
pub record Taken (sh : Shape) (p side d : ℕ) (l₀ l : List ℕ) : Type 0 where
  pub long : length l ≡ 32
  pub sum : (s : List ℕ) (t : ℕ) → flat s l t (2 * sh.m - 2) ≡ chain sh.m sh.n (byte sh s t) p ⊕ byte sh s t d (beside side sh.n p d)
  pub rest : (i : ℕ) → i < 2 * sh.m - 2 → (1 ≤ d → i ≢ 2 * d - 1 - side) → get_or l i 0 ≡ get_or l₀ i 0
  pub ends : (i : ℕ) → i < 2 * sh.m - 2 → get_or l i 0 + sh.w ≤ size sh

-- an entry of a side
side_entry : (sh : Shape) → Good sh → (p : ℕ) → p < sh.n → (l₀ : List ℕ) → Laid sh p l₀ → (side : ℕ) → side ≤ 1
    → (s : List ℕ) (t e : ℕ) → 1 ≤ e → e < sh.m → entry s l₀ t (2 * e - 1 - side) ≡ byte sh s t e (beside side sh.n p e)
unfolding beside
side_entry sh good p hp l₀ c zero hs s t e lo hi = let q : 2 * e - 1 - 0 ≡ 2 * e - 1 = omega arith in ap (entry s l₀ t) q ∙ right_entry sh good l₀ p hp c s t e lo hi
side_entry sh good p hp l₀ c (suc k) hs s t e lo hi = let q : 2 * e - 1 - suc k ≡ 2 * e - 2 = omega arith in ap (entry s l₀ t) q ∙ left_entry sh good l₀ p hp c s t e lo hi

module _ (sh : Shape) (good : Good sh) (p : ℕ) (hp : p < sh.n) (side : ℕ) (hs : side ≤ 1) (l₀ : List ℕ) (c : Laid sh p l₀) where
  here : beside side sh.n p 0 ≡ p
  unfolding beside
  here = at side
    where
      at : (side : ℕ) → beside side sh.n p 0 ≡ p
      at zero = right_zero sh.n p hp
      at (suc k) = left_zero sh.n p hp

  -- of height 0 it is the parity symbol, which the list's first places do not have
  pub taken_parity : Taken sh p side 0 l₀ l₀
  unfolding chain
  taken_parity = record {
    long = c.information.long;
    sum = λ s t. flat_others sh good l₀ p hp c s t ∙ twice (byte sh s t 0 p) _ ∙ ap (λ (j : ℕ). (byte sh s t 0 p ⊕ others sh.m sh.n (byte sh s t) p) ⊕ byte sh s t 0 j) (sym here);
    rest = λ i h ne. refl;
    ends = λ i h. laid_ends sh good l₀ p hp c i (omega arith);
  }
    where
      twice : (a b : ℕ) → b ≡ (a ⊕ b) ⊕ a
      twice a b = simp ⊕_laws

  -- of any other the parity symbol takes its place
  module _ (d : ℕ) (lo : 1 ≤ d) (hi : d < sh.m) where
    taken_side : Taken sh p side d l₀ (set l₀ (2 * d - 1 - side) (get_or l₀ (2 * sh.m - 2) 0))
    unfolding chain
    taken_side = record {
      long = length-set l₀ (2 * d - 1 - side) _ ∙ c.information.long;
      sum = λ s t.
          flat_set s l₀ t (2 * d - 1 - side) (get_or l₀ (2 * sh.m - 2) 0) inside (2 * sh.m - 2) (omega arith)
          ∙ ap₂ (λ (x y : ℕ). x ⊕ (y ⊕ entry s l₀ t (2 * sh.m - 2))) (flat_others sh good l₀ p hp c s t) (side_entry sh good p hp l₀ c side hs s t d lo hi)
          ∙ ap (λ (z : ℕ). others sh.m sh.n (byte sh s t) p ⊕ (byte sh s t d (beside side sh.n p d) ⊕ z)) (parity_entry sh good l₀ p hp c s t)
          ∙ turn _ _ _;
      rest = λ i h ne. get_or-set_other l₀ (2 * d - 1 - side) i _ 0 (λ e. ne lo e);
      ends = λ i h. at i h (ℕ_discrete i (2 * d - 1 - side));
    }
      where
        inside : 2 * d - 1 - side < length l₀
        inside = omega (arith, c.information.long, good.m_fits.1)

        turn : (o x y : ℕ) → o ⊕ (x ⊕ y) ≡ (y ⊕ o) ⊕ x
        turn o x y = simp ⊕_laws

        at : (i : ℕ) → i < 2 * sh.m - 2 → Dec (i ≡ 2 * d - 1 - side) → get_or (set l₀ (2 * d - 1 - side) (get_or l₀ (2 * sh.m - 2) 0)) i 0 + sh.w ≤ size sh
        at i h (yes e) =
            let f = ap (λ (j : ℕ). get_or (set l₀ (2 * d - 1 - side) (get_or l₀ (2 * sh.m - 2) 0)) j 0) e ∙ get_or-set_same l₀ (2 * d - 1 - side) (get_or l₀ (2 * sh.m - 2) 0) 0 inside in
            omega (arith, f, laid_ends sh good l₀ p hp c (2 * sh.m - 2) (omega arith))
        at i h (no ne) =
            omega (arith, get_or-set_other l₀ (2 * d - 1 - side) i (get_or l₀ (2 * sh.m - 2) 0) 0 ne, laid_ends sh good l₀ p hp c i (omega arith))

    pub taken_at : (k : ℕ) → k ≡ 2 * sh.m - 2 → Taken sh p side d l₀ (set l₀ (2 * d - 1 - side) (get_or l₀ k 0))
    taken_at k e = rw e taken_side

  -- ---- the sources

  module _ (d aside h b : ℕ) (ha : aside ≤ 1) (lo : 1 ≤ h) (ne : (d ≢ h) ⊎ (side ≢ aside)) (l : List ℕ) (u : Taken sh p side d l₀ l) where
    four : 2 * sh.m - 4 + 2 ≡ 2 * sh.m - 2
    four = omega (arith, good.m_fits.0)

    -- there is no height h
    pub sourced_top : sh.m ≤ h
        → Sourced sh p side d aside h b l (record { count = 2 * sh.m - 4; a = get_or l (2 * sh.m - 4) 0; b = Stripe (get_or l (2 * sh.m - 4 + 1) 0) })
    unfolding summed besides
    sourced_top far = record {
      fits = λ s out es room. record {
        small = omega (arith, good.all_fits);
        long = u.long;
        few = omega (arith, good.m_fits.1);
        even = omega arith;
        each = λ i lt. omega (arith, u.ends i (omega arith));
        a_in = omega (arith, u.ends (2 * sh.m - 4) (omega (arith, good.m_fits.0)));
        b_in = omega (arith, u.ends (2 * sh.m - 4 + 1) (omega (arith, good.m_fits.0)));
        b_small = omega (arith, good.all_fits, u.ends (2 * sh.m - 4 + 1) (omega (arith, good.m_fits.0)));
      };
      sum = λ s out t ht.
          top_at s l t (2 * sh.m - 4) ∙ ap (flat s l t) four ∙ u.sum s t
          ∙ rw (le-ltb h sh.m far) (sym (⊕_zero_r _ ∙ ⊕_zero_r _));
      asks = (λ i q. let z : ◌≡◌ {A = ℕ} 0 1 = cc in absurd (omega arith), λ z. absurd (omega arith));
    }

    -- the symbol of height h was asked for
    module _ (near : h < sh.m) where
      kept : get_or l (2 * h - 1 - aside) 0 ≡ get_or l₀ (2 * h - 1 - aside) 0
      kept = u.rest (2 * h - 1 - aside) (omega arith) (λ l e. ⊎_elim (λ z. omega (arith, hs)) (λ z. omega (arith, hs)) ne)

      last : List ℕ
      last = set l (2 * h - 1 - aside) (get_or l (2 * sh.m - 4 + 1) 0)

      inside : 2 * h - 1 - aside < length l
      inside = omega (arith, u.long, good.m_fits.1)

      last_ends : (i : ℕ) → i < 2 * sh.m - 3 → get_or last i 0 + sh.w ≤ size sh
      unfolding last
      last_ends i hi = at (ℕ_discrete i (2 * h - 1 - aside))
        where
          at : Dec (i ≡ 2 * h - 1 - aside) → get_or last i 0 + sh.w ≤ size sh
          at (yes e) =
              let f = ap (λ (j : ℕ). get_or (set l (2 * h - 1 - aside) (get_or l (2 * sh.m - 4 + 1) 0)) j 0) e ∙ get_or-set_same l (2 * h - 1 - aside) (get_or l (2 * sh.m - 4 + 1) 0) 0 inside in
              omega (arith, f, u.ends (2 * sh.m - 4 + 1) (omega arith))
          at (no ne) = omega (arith, get_or-set_other l (2 * h - 1 - aside) i (get_or l (2 * sh.m - 4 + 1) 0) 0 ne, u.ends i (omega arith))

      pub next_small : get_or (set l (2 * h - 1 - aside) (get_or l (2 * sh.m - 4 + 1) 0)) (2 * sh.m - 4) 0 ≤ 65536
      unfolding last
      next_small = omega (arith, last_ends (2 * sh.m - 4) (omega (arith, good.m_fits.0)), good.all_fits)

      pub sourced_next : Sourced sh p side d aside h b (set l (2 * h - 1 - aside) (get_or l (2 * sh.m - 4 + 1) 0))
          (record { count = 2 * sh.m - 4; a = get_or (set l (2 * h - 1 - aside) (get_or l (2 * sh.m - 4 + 1) 0)) (2 * sh.m - 4) 0; b = Buffer b })
      unfolding summed besides last
      sourced_next = record {
        fits = λ s out es room. record {
          small = omega (arith, good.all_fits);
          long = length-set l (2 * h - 1 - aside) _ ∙ u.long;
          few = omega (arith, good.m_fits.1);
          even = omega arith;
          each = λ i lt. omega (arith, last_ends i (omega arith));
          a_in = omega (arith, last_ends (2 * sh.m - 4) (omega (arith, good.m_fits.0)));
          b_in = (room near).0;
          b_small = (room near).1;
        };
        sum = λ s out t ht.
            next_at s last t (2 * sh.m - 4) (get_or out (b + t) 0)
            ∙ ap (λ (z : ℕ). z ⊕ get_or out (b + t) 0)
            (flat_drop s l t (2 * h - 1 - aside) (2 * sh.m - 4 + 1) (omega (arith, u.long, good.m_fits.1)) (omega arith)
            ∙ ap₂ ◌⊕◌ (ap (flat s l t) five ∙ u.sum s t) (ap (λ (a : ℕ). get_or s (a + t) 0) kept ∙ side_entry sh good p hp l₀ c aside ha s t h lo near))
            ∙ rw (lt-ltb h sh.m near);
        asks = (λ i q. (near, cc), λ z. refl);
      }
        where
          five : 2 * sh.m - 4 + 1 + 1 ≡ 2 * sh.m - 2
          five = omega (arith, good.m_fits.0)
