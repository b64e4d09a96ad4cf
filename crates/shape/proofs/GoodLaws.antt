-- Laws of Good: a shape is good exactly when its table lets it pass, and with the length right so does the stripe's.
-- What follows from a good shape, for those who need no more: good_m, good_w, good_wide, good_room.
use mathlib.Core.Path.{◌≡◌, refl, sym, ◌∙◌}
use mathlib.Core.Logic.Dec
use mathlib.Core.Logic.{◌↔◌, ◌⊎◌, inl, inr}
use mathlib.Core.List.{List, ◌++◌}
use Prim.Native.Nat.{ℕ, ◌+◌, ◌*◌, ◌≤◌, ◌<◌}
use native.Mathlib.Omega.{arith}
use native.Mathlib.Decide.{dec_le, ℕ_discrete}
use lib.ListN.{length}
use Rattle.shape.specs.declared.Shape.{Shape}
use Rattle.shape.specs.Good.{Range, Within, Outside, rows, columns, symbol, most, size, Good}
use Rattle.answer.specs.Answers.{Table, First, Rises}
use Rattle.shape.specs.Refusals.{shape_table, stripe_table}
use Rattle.answer.proofs.AnswersLaws.{Lacks, first_clear, first_pass, first_split, Like, like_refl, like_append}

-- ---- within and outside

pub outside_not : (range : Range) (x : ℕ) → Within range x → ¬ Outside range x
outside_not range x h (inl z) = omega (arith, h.0)
outside_not range x h (inr z) = omega (arith, h.1)

inside : (range : Range) (x : ℕ) → ¬ Outside range x → Within range x
inside range x h = (at (dec_le range.0 x), at' (dec_le x range.1))
  where
    at : Dec (range.0 ≤ x) → range.0 ≤ x
    at (yes p) = p
    at (no p) = absurd (h (inl (omega arith)))

    at' : Dec (x ≤ range.1) → x ≤ range.1
    at' (yes p) = p
    at' (no p) = absurd (h (inr (omega arith)))

module _ (sh : Shape) where
  -- ---- what a good shape gives

  module _ (good : Good sh) where
    pub good_m : 0 < sh.m
    good_m = omega (arith, good.m_fits.0)

    pub good_w : 0 < sh.w
    good_w = good.w_fits.0

    -- 4m-3 ≤ n
    pub good_wide : 4 * sh.m ≤ sh.n + 3
    good_wide = omega (arith, good.n_fits.0)

    -- 2m-1 ≤ n
    pub good_room : sh.m + sh.m ≤ sh.n + 1
    good_room = omega (arith, good.n_fits.0, good.m_fits.0)

  -- ---- the shape's table

  too_much : Good sh → ¬ (Outside symbol sh.w ⊎ (most < size sh))
  too_much good (inl z) = outside_not symbol sh.w good.w_fits z
  too_much good (inr z) = omega (arith, good.all_fits)

  pub shape_done : Good sh ↔ First (shape_table sh) 0
  unfolding shape_table
  shape_done = (
    (λ g. inr (outside_not rows sh.m g.m_fits, inr (outside_not (columns sh.m) sh.n g.n_fits, inr (too_much g, refl)))),
    (λ h.
        let a = first_clear 0 h in let b = first_clear 1 a.1 in let c = first_clear 2 b.1 in record {
          m_fits = inside rows sh.m a.0;
          n_fits = inside (columns sh.m) sh.n b.0;
          w_fits = inside symbol sh.w (λ z. c.0 (inl z));
          all_fits = (Dec.not-not (dec_le (size sh) most)).0 (λ n. c.0 (inr (omega arith)));
        }),
  )

  -- each refusal of the shape, where those before it do not apply
  pub shape_1 : Outside rows sh.m → First (shape_table sh) 1
  unfolding shape_table
  shape_1 z = inl (z, refl)

  pub shape_2 : Within rows sh.m → Outside (columns sh.m) sh.n → First (shape_table sh) 2
  unfolding shape_table
  shape_2 h z = inr (outside_not rows sh.m h, inl (z, refl))

  pub shape_3 : Within rows sh.m → Within (columns sh.m) sh.n → Outside symbol sh.w ⊎ (most < size sh) → First (shape_table sh) 3
  unfolding shape_table
  shape_3 h k z = inr (outside_not rows sh.m h, inr (outside_not (columns sh.m) sh.n k, inl (z, refl)))

  shape_lacks : Lacks 0 (shape_table sh)
  unfolding shape_table
  shape_lacks = omega arith

  pub shape_rises : Rises 0 (shape_table sh)
  unfolding shape_table
  shape_rises = omega arith

  -- ---- the stripe's

  module _ (s : List ℕ) where
    pub stripe_lacks : (k : ℕ) → (k ≡ 0) ⊎ (4 < k) → Lacks k (stripe_table sh s)
    unfolding shape_table stripe_table
    stripe_lacks k (inl e) = omega arith
    stripe_lacks k (inr h) = omega arith

    pub stripe_rises : Rises 0 (stripe_table sh s)
    unfolding shape_table stripe_table
    stripe_rises = omega arith

    pub stripe_done : (Good sh × (length s ≡ size sh)) ↔ First (stripe_table sh s) 0
    unfolding stripe_table
    stripe_done = (
      (λ h. first_pass (shape_table sh) _ 0 shape_lacks (shape_done.0 h.0) (inr ((λ ne. ne h.1), refl))),
      (λ h. let z = first_split (shape_table sh) _ 0 shape_lacks h in
          (shape_done.1 z.0, (Dec.not-not (ℕ_discrete (length s) (size sh))).0 (first_clear 3 z.1).0)),
    )

    -- the rest of a table behind the stripe's: handed on, and taken apart
    pub stripe_pass : (rest : Table) (k : ℕ) → Good sh → length s ≡ size sh → First rest k → First (stripe_table sh s ++ rest) k
    stripe_pass rest k good len h = first_pass (stripe_table sh s) rest k (stripe_lacks 0 (inl refl)) (stripe_done.0 (good, len)) h

    pub stripe_rest : (rest : Table) (k : ℕ) → (k ≡ 0) ⊎ (4 < k) → First (stripe_table sh s ++ rest) k → Good sh × (length s ≡ size sh) × First rest k
    stripe_rest rest k is h =
        let z = first_split (stripe_table sh s) rest k (stripe_lacks k is) h in let g = stripe_done.1 z.0 in (g.0, g.1, z.1)

    pub stripe_clear : (rest : Table) → First (stripe_table sh s ++ rest) 0 → Good sh × (length s ≡ size sh) × First rest 0
    stripe_clear rest h = stripe_rest rest 0 (inl refl) h

-- a stripe as long as another is refused as the other is
pub stripe_like : (sh : Shape) (s s₂ : List ℕ) → length s ≡ length s₂ → Like (stripe_table sh s) (stripe_table sh s₂)
unfolding stripe_table
stripe_like sh s s₂ e =
    like_append (shape_table sh) (shape_table sh) _ _ (like_refl (shape_table sh)) (refl, ((λ ne z. ne (e ∙ z)), (λ ne z. ne (sym e ∙ z))), tt)
