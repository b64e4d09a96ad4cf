-- Laws of Settled: it begins with nothing, a span of a parity symbol is settled, one stretch comes after another and one column after another, and with all
-- of them the stripe is encoded.
use mathlib.Core.Path.{◌≡◌, refl, sym, ap, ◌∙◌}
use mathlib.Core.Logic.{◌≢◌, ◌⊎◌, inl, inr}
use mathlib.Core.List.{List}
use Prim.Native.Nat.{ℕ, zero, ◌+◌, ◌-◌, ◌≤◌, ◌<◌}
use native.Mathlib.Omega.{arith}
use native.Mathlib.Decide.{dec_lt, ℕ_discrete}
use Rattle.xor.specs.Spanned.{Spanned}
use Rattle.shape.specs.declared.Shape.{Shape}
use Rattle.shape.specs.Good.{Good}
use Rattle.shape.specs.Place.{byte, place}
use Rattle.shape.proofs.GoodLaws.{good_m, good_room}
use Rattle.rule.specs.Rule.{others}
use Rattle.rule.proofs.ChainLaws.{others_cong}
use Rattle.encoding.specs.Encode.{Encoded}
use Rattle.encoding.specs.Settled.{Settled, Stretch, Below}
use Rattle.shape.proofs.Spans.{span_in, span_out}

module _ (sh : Shape) where
  pub settled_none : {R : ℕ → ℕ → Type 0} (s : List ℕ) → ((q t : ℕ) → ¬ R q t) → Settled sh R s s
  settled_none s none =
      record { long = refl; information = λ d c t l hd hc ht. refl; set = λ q t hq ht r. absurd (none q t r); kept = λ q t hq ht n. refl }

  module _ (good : Good sh) where
    -- the others of a column are the same where the information is
    others_same : (s s₁ : List ℕ) (q t : ℕ) → q < sh.n → t < sh.w
        → ((d c t : ℕ) → 1 ≤ d → d < sh.m → c < sh.n → t < sh.w → byte sh s₁ t d c ≡ byte sh s t d c)
        → others sh.m sh.n (byte sh s₁ t) q ≡ others sh.m sh.n (byte sh s t) q
    others_same s s₁ q t hq ht same =
        others_cong sh.m sh.n (omega (arith, good_room sh good, good_m sh good)) q hq (byte sh s₁ t) (byte sh s t) (λ d c l hd hc. same d c t l hd hc ht)

    -- what is settled after what
    module _ {P Q R : ℕ → ℕ → Type 0} (s s₁ s₂ : List ℕ) (a : Settled sh P s s₁) (b : Settled sh Q s₁ s₂) where
      pub settled_then : ((q t : ℕ) → t < sh.w → R q t → Q q t ⊎ (P q t × (¬ Q q t))) → ((q t : ℕ) → t < sh.w → ¬ R q t → (¬ P q t) × (¬ Q q t)) → Settled sh R s s₂
      settled_then split apart = record {
        long = b.long ∙ a.long;
        information = λ d c t l hd hc ht. b.information d c t l hd hc ht ∙ a.information d c t l hd hc ht;
        set = λ q t hq ht r. at q t hq ht (split q t ht r);
        kept = λ q t hq ht n. let (np, nq) = apart q t ht n in b.kept q t hq ht nq ∙ a.kept q t hq ht np;
      }
        where
          at : (q t : ℕ) → q < sh.n → t < sh.w → Q q t ⊎ (P q t × (¬ Q q t)) → byte sh s₂ t 0 q ≡ others sh.m sh.n (byte sh s t) q
          at q t hq ht (inl y) = b.set q t hq ht y ∙ others_same s s₁ q t hq ht a.information
          at q t hq ht (inr (x, ny)) = b.kept q t hq ht ny ∙ a.set q t hq ht x

    -- a stretch of column p after another
    pub stretch_then : (s s₁ s₂ : List ℕ) (p lo mid hi : ℕ) → lo ≤ mid → mid ≤ hi → Settled sh (Stretch p lo mid) s s₁ → Settled sh (Stretch p mid hi) s₁ s₂
        → Settled sh (Stretch p lo hi) s s₂
    stretch_then s s₁ s₂ p lo mid hi l h a b = settled_then s s₁ s₂ a b
        (λ q t ht (e, x, y). at q t e x y (dec_lt t mid))
        (λ q t ht n. ((λ (e, x, y). n (e, x, omega arith)), (λ (e, x, y). n (e, omega arith, y))))
      where
        at : (q t : ℕ) → q ≡ p → lo ≤ t → t < hi → Dec (t < mid) → Stretch p mid hi q t ⊎ (Stretch p lo mid q t × (¬ Stretch p mid hi q t))
        at q t e x y (yes k) = inr ((e, x, k), λ (_, z, _). omega arith)
        at q t e x y (no k) = inl (e, omega arith, y)

    -- column p after those below it
    pub column_then : (s s₁ s₂ : List ℕ) (p : ℕ) → Settled sh (Below p) s s₁ → Settled sh (Stretch p 0 sh.w) s₁ s₂ → Settled sh (Below (p + 1)) s s₂
    column_then s s₁ s₂ p a b = settled_then s s₁ s₂ a b
        (λ q t ht r. at q t ht r (ℕ_discrete q p))
        (λ q t ht n. ((λ x. n (omega arith)), (λ (e, x, y). n (omega arith))))
      where
        at : (q t : ℕ) → t < sh.w → q < p + 1 → Dec (q ≡ p) → Stretch p 0 sh.w q t ⊎ (Below p q t × (¬ Stretch p 0 sh.w q t))
        at q t ht r (yes e) = inl (e, omega arith, ht)
        at q t ht r (no ne) = inr (omega arith, λ (e, _, _). ne e)

    -- a span of the parity symbol of column p
    module _ (s s' : List ℕ) (p from len : ℕ) (hp : p < sh.n) (high : from + len ≤ sh.w)
        (span : Spanned (λ t. others sh.m sh.n (byte sh s (from + t)) p) s s' (place sh 0 p from) len) where
      pub settled_span : Settled sh (Stretch p from (from + len)) s s'
      settled_span = record {
        long = span.long;
        information = λ d c t l hd hc ht. span_out sh _ s s' 0 p from len span (good_m sh good) high d c t hd ht (inl (inl (omega arith)));
        set = λ q t hq ht (e, lo, hi).
            let f : from + (t - from) ≡ t = omega arith in
            ap (byte sh s' t 0) e ∙ span_in sh _ s s' 0 p from len span t lo hi
            ∙ ap (λ (u : ℕ). others sh.m sh.n (byte sh s u) p) f ∙ sym (ap (others sh.m sh.n (byte sh s t)) e);
        kept = λ q t hq ht n. span_out sh _ s s' 0 p from len span (good_m sh good) high 0 q t (good_m sh good) ht (out q t n (ℕ_discrete q p) (dec_lt t from) (dec_lt t (from + len)));
      }
        where
          out : (q t : ℕ) → ¬ Stretch p from (from + len) q t → Dec (q ≡ p) → Dec (t < from) → Dec (t < from + len)
              → ((zero ≢ zero) ⊎ (q ≢ p)) ⊎ ((t < from) ⊎ (from + len ≤ t))
          out q t n (no ne) k l = inl (inr ne)
          out q t n (yes e) (yes k) l = inr (inl k)
          out q t n (yes e) (no k) (yes l) = absurd (n (e, omega arith, l))
          out q t n (yes e) (no k) (no l) = inr (inr (omega arith))

    -- every column
    pub settled_all : (s s' : List ℕ) → Settled sh (Below sh.n) s s' → Encoded sh s s'
    settled_all s s' h = record {
      long = h.long;
      information = h.information;
      obeys = record { rule = λ p t hp ht. h.set p t hp ht hp ∙ sym (others_same s s' p t hp ht h.information) };
    }
