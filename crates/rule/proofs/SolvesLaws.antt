-- Laws of Solves: what solves is solved in the outer-chain order, so there is at most one; whether there is one is decided.
-- To cite: solves_outer, solves_one, solves_more, solves_across, solves?, mended_one.
use mathlib.Core.Path.{◌≡◌, sym, ◌∙◌, subst}
use mathlib.Core.Logic.{inl, inr}
use mathlib.Core.List.{List}
use Prim.Native.Nat.{ℕ, ◌<◌}
use native.Mathlib.Omega.{arith}
use native.Mathlib.Decide.{dec_lt, ℕ_discrete}
use lib.ListN.{length, get_or}
use Rattle.shape.specs.declared.Shape.{Shape}
use Rattle.shape.specs.Good.{Good, size}
use Rattle.shape.specs.Place.{byte}
use Rattle.shape.proofs.PlaceLaws.{byte_ext}
use Rattle.shape.proofs.GoodLaws.{good_m, good_w, good_wide, good_room}
use Rattle.rule.specs.declared.Losses.{Losses}
use Rattle.rule.specs.declared.Losses.TheVariants.{One, Two}
use Rattle.rule.specs.Rule.{Obeys}
use Rattle.rule.specs.Losses.{Lost, Beyond, Twice, Agrees, Bytes, Solves}
use Rattle.rule.specs.Outer.{Outer, Used}
use Rattle.rule.proofs.Decide.{every?}
use Rattle.rule.proofs.RuleLaws.{obeys_differs, obeys?}
use Rattle.rule.proofs.Solve.{side_chain_lt}
use Rattle.rule.proofs.Reading.{reading_order, reading_used}
use Rattle.rule.proofs.OuterLaws.{outer_one, outer_some}

-- ---- more may be lost; and old bytes of lost columns have no say

pub agrees_more : (sh : Shape) (few many : Losses) (s x : List ℕ) → ((c : ℕ) → Lost few c → Lost many c) → Agrees sh few s x → Agrees sh many s x
agrees_more sh few many s x h a = record { same = λ d c t hd hc ht k. a.same d c t hd hc ht (λ z. k (h c z)) }

pub solves_more : (sh : Shape) (few many : Losses) (s x : List ℕ) → ((c : ℕ) → Lost few c → Lost many c) → Solves sh few s x → Solves sh many s x
solves_more sh few many s x h sol =
    record { long = sol.long; bytes = sol.bytes; obeys = sol.obeys; agrees = agrees_more sh few many s x h sol.agrees }

pub agrees_sym : (sh : Shape) (lost : Losses) (s x : List ℕ) → Agrees sh lost s x → Agrees sh lost x s
agrees_sym sh lost s x h = record { same = λ d c t hd hc ht k. sym (h.same d c t hd hc ht k) }

pub solves_across : (sh : Shape) (lost : Losses) (s s₂ x : List ℕ) → length s ≡ length s₂ → Agrees sh lost s s₂ → Solves sh lost s x → Solves sh lost s₂ x
solves_across sh lost s s₂ x len agree sol = record {
  long = sol.long ∙ len;
  bytes = sol.bytes;
  obeys = sol.obeys;
  agrees = record { same = λ d c t hd hc ht k. sol.agrees.same d c t hd hc ht k ∙ sym (agree.same d c t hd hc ht k) };
}

module _ (sh : Shape) (good : Good sh) (lost : Losses) (fit : ¬ Beyond sh.n lost) (apart : ¬ Twice lost) (s : List ℕ) where
  used_lt : (p : ℕ) → Used sh.m sh.n lost p → p < sh.n
  used_lt p u =
      let (side, d, h, hd, e) = (reading_used sh.m sh.n (good_wide sh good) lost fit apart p).0 u in
      subst (λ (q : ℕ). q < sh.n) (sym e)
      (side_chain_lt sh.m sh.n _ _ _ (good_m sh good) (good_room sh good) (reading_order sh.m sh.n (good_wide sh good) lost fit apart) side h d hd)

  pub solves_outer : (x : List ℕ) → Solves sh lost s x → Outer sh lost s x
  solves_outer x sol = record {
    long = sol.long;
    agrees = sol.agrees;
    holds = λ p t u ht. (obeys_differs sh x).0 sol.obeys p t (used_lt p u) ht;
  }

  module _ (len : length s ≡ size sh) where
    -- ---- one, and whether there is one

    pub solves_one : (x y : List ℕ) → Solves sh lost s x → Solves sh lost s y → x ≡ y
    solves_one x y p q = outer_one sh good lost fit apart s x y len (solves_outer x p) (solves_outer y q)

    -- what solves is one stripe, so that one is tried
    pub solves? : Dec ((x : List ℕ) × Solves sh lost s x)
    solves? = let (x, o) = outer_some sh good lost fit apart s len in
        at x o (every? (length x) (λ i. get_or x i 0 < 256) (λ i h. dec_lt _ _)) (obeys? sh x)
      where
        at : (x : List ℕ) → Outer sh lost s x → Dec (Bytes x) → Dec (Obeys sh x) → Dec ((x : List ℕ) × Solves sh lost s x)
        at x o (yes p) (yes q) = yes (x, record { long = o.long; bytes = p; obeys = q; agrees = o.agrees })
        at x o (yes p) (no q) = no (λ z. q (subst (Obeys sh) (only z.0 z.1) z.1.obeys))
          where
            only : (y : List ℕ) → Solves sh lost s y → y ≡ x
            only y sol = outer_one sh good lost fit apart s y x len (solves_outer y sol) o
        at x o (no p) q = no (λ z. p (subst Bytes (outer_one sh good lost fit apart s z.0 x len (solves_outer z.0 z.1) o) z.1.bytes))

-- ---- at most one column mends a stripe that is not sound: what mends in two ways is the stripe itself

pub mended_one : (sh : Shape) → Good sh → (s : List ℕ) → length s ≡ size sh → ¬ Obeys sh s → (c e : ℕ) → c < sh.n → e < sh.n
    → (x y : List ℕ) → Solves sh (One c) s x → Solves sh (One e) s y → c ≡ e
mended_one sh good s len bad c e hc he x y p q = at (ℕ_discrete c e)
  where
    at : Dec (c ≡ e) → c ≡ e
    at (yes z) = z
    at (no ne) = absurd (bad (subst (Obeys sh) x_is_s p.obeys))
      where
        both : x ≡ y
        both = solves_one sh good (Two c e) (λ z. elim z [ inl u ↦ omega arith | inr u ↦ omega arith ]) ne s len x y
            (solves_more sh (One c) (Two c e) s x (λ j z. inl z) p) (solves_more sh (One e) (Two c e) s y (λ j z. inr z) q)

        x_is_s : x ≡ s
        x_is_s = byte_ext sh (good_m sh good) (good_w sh good) x s (p.long ∙ len) len (λ d j t hd hj ht. here d j t hd hj ht (ℕ_discrete j c))
          where
            here : (d j t : ℕ) → d < sh.m → j < sh.n → t < sh.w → Dec (j ≡ c) → byte sh x t d j ≡ byte sh s t d j
            here d j t hd hj ht (no u) = p.agrees.same d j t hd hj ht u
            here d j t hd hj ht (yes u) =
                subst (λ (z : List ℕ). byte sh z t d j ≡ byte sh s t d j) (sym both) (q.agrees.same d j t hd hj ht (λ k. ne (sym u ∙ k)))
