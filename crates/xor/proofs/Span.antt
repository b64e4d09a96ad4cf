-- Laws of Spanned. To cite: span_none and span_more for a loop that stores to `to + i` at turn i, span_same to say a span otherwise, span_then for two
-- spans that are neighbours.
use mathlib.Core.Path.{◌≡◌, refl, sym, ap, ◌∙◌}
use mathlib.Core.Logic.{⊎_elim, inl, inr}
use mathlib.Core.List.{List}
use Prim.Native.Nat.{ℕ, ◌+◌, ◌-◌, ◌<◌}
use native.Mathlib.Omega.{arith}
use native.Mathlib.Decide.{dec_lt}
use borrow.Author.Count.{below_more}
use lib.ListN.{length, get_or, set, length-set}
use lib.Seq.{get_or-set_same, get_or-set_other}
use Rattle.xor.specs.Spanned.{Spanned}

-- nothing is stored yet
pub span_none : (f : ℕ → ℕ) (xs : List ℕ) (to : ℕ) → Spanned f xs xs to 0
span_none f xs to = record { long = refl; at = λ t l. absurd (omega arith); rest = λ i l. refl }

-- one byte more
pub span_more : {f : ℕ → ℕ} {xs ys : List ℕ} {to i : ℕ} → Spanned f xs ys to i → (v : ℕ) → v ≡ f i → to + i < length ys → Spanned f xs (set ys (to + i) v) to (i + 1)
span_more {f} {xs} {ys} {to} {i} u v e lt = record {
  long = length-set ys (to + i) v ∙ u.long;
  at = below_more (λ t. get_or (set ys (to + i) v) (to + t) 0 ≡ f t) i (λ t l. get_or-set_other ys (to + i) (to + t) v 0 (λ q. omega arith) ∙ u.at t l) (get_or-set_same ys (to + i) v 0 lt ∙ e);
  rest = λ j w. ⊎_elim (λ l. get_or-set_other ys (to + i) j v 0 (λ q. omega arith) ∙ u.rest j (inl l)) (λ g. get_or-set_other ys (to + i) j v 0 (λ q. omega arith) ∙ u.rest j (inr (omega arith))) w;
}

-- the same span said otherwise
pub span_same : {f : ℕ → ℕ} (g : ℕ → ℕ) {xs ys : List ℕ} {a b len : ℕ} → Spanned f xs ys a len → a ≡ b → ((t : ℕ) → t < len → f t ≡ g t) → Spanned g xs ys b len
span_same g {ys = ys} u q e = record {
  long = u.long;
  at = λ t l. ap (λ (x : ℕ). get_or ys (x + t) 0) (sym q) ∙ u.at t l ∙ e t l;
  rest = λ i w. u.rest i (⊎_elim (λ l. inl (omega arith)) (λ l. inr (omega arith)) w);
}

-- a span and the one right after it are one span
pub span_then : (f : ℕ → ℕ) {xs ys zs : List ℕ} {to a b : ℕ} → Spanned f xs ys to a → Spanned (λ t. f (a + t)) ys zs (to + a) b → Spanned f xs zs to (a + b)
span_then f {xs} {ys} {zs} {to} {a} {b} u v = record {
  long = v.long ∙ u.long;
  at = λ t h. put t h (dec_lt t a);
  rest = λ i h. v.rest i (⊎_elim (λ l. inl (omega arith)) (λ l. inr (omega arith)) h) ∙ u.rest i (⊎_elim (λ l. inl l) (λ l. inr (omega arith)) h);
}
  where
    put : (t : ℕ) → t < a + b → Dec (t < a) → get_or zs (to + t) 0 ≡ f t
    put t h (yes k) = v.rest (to + t) (inl (omega arith)) ∙ u.at t k
    put t h (no k) =
        let e : to + t ≡ to + a + (t - a) = omega arith in
        let q : a + (t - a) ≡ t = omega arith in
        ap (λ (i : ℕ). get_or zs i 0) e ∙ v.at (t - a) (omega arith) ∙ ap f q
