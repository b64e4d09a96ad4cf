-- Laws of sums over a list of places: in the code's words, and one stretch of a symbol after another.
use mathlib.Core.Path.{◌≡◌, refl, sym, ap, ap₂, ◌∙◌}
use mathlib.Core.Logic.{inl, inr, ⊎_elim}
use mathlib.Core.List.{List}
use Prim.Native.Nat.{ℕ, suc, ◌+◌, ◌-◌, ◌*◌, ◌≤◌, ◌<◌}
use native.Mathlib.Nat.{add_assoc}
use native.Mathlib.Omega.{arith}
use lib.ListN.{length, get_or}
use Rattle.xor.specs.Xor.{◌⊕◌}
use Rattle.xor.specs.Spanned.{Spanned}
use Rattle.xor.proofs.Span.{span_same, span_then}
use Rattle.xor.proofs.XorLaws.{⊕_assoc, ⊕_zero_r}
use Rattle.summing.specs.declared.Sum.{Sum}
use Rattle.summing.specs.declared.Lies.{Lies}
use Rattle.summing.specs.declared.Lies.TheVariants.{Stripe, Buffer}
use Rattle.summing.specs.Sums.{part_of, start_of, flat, summed, Fits, Clear, Summed}

-- the byte t after the ith place
abbrev pub entry : List ℕ → List ℕ → ℕ → ℕ → ℕ
entry s l t i = get_or s (get_or l i 0 + t) 0

module _ (s l : List ℕ) (t : ℕ) where
  pub flat_none : flat s l t 0 ≡ 0
  unfolding flat
  flat_none = refl

  pub flat_suc : (k : ℕ) → flat s l t (k + 1) ≡ flat s l t k ⊕ entry s l t k
  unfolding flat
  flat_suc k = let e : k + 1 ≡ suc k = omega arith in ap (flat s l t) e

  pub flat_two : (k : ℕ) → flat s l t (k + 2) ≡ flat s l t k ⊕ (entry s l t k ⊕ entry s l t (k + 1))
  flat_two k =
      let e : k + 2 ≡ k + 1 + 1 = omega arith in
      ap (flat s l t) e ∙ flat_suc (k + 1) ∙ ap (λ (z : ℕ). z ⊕ entry s l t (k + 1)) (flat_suc k) ∙ ⊕_assoc _ _ _

-- ---- as `sum` makes them

-- a byte that the code reads at a + from + k
read_at : (s : List ℕ) (a from k : ℕ) → get_or s (a + from + k) 0 ≡ get_or s (a + (from + k)) 0
read_at s a from k = ap (λ (z : ℕ). get_or s z 0) (add_assoc a from k)

pub start_at : (s u l : List ℕ) (a b from k : ℕ) {x : ℕ} → x ≡ get_or s (a + from + k) 0 ⊕ get_or u (b + from + k) 0
    → x ≡ (get_or s (a + (from + k)) 0 ⊕ get_or u (b + (from + k)) 0) ⊕ flat s l (from + k) 0
start_at s u l a b from k e =
    e ∙ ap₂ ◌⊕◌ (read_at s a from k) (read_at u b from k)
    ∙ sym (⊕_zero_r _) ∙ ap (λ (z : ℕ). (get_or s (a + (from + k)) 0 ⊕ get_or u (b + (from + k)) 0) ⊕ z) (sym (flat_none s l (from + k)))

pub more_at : (s l : List ℕ) (from k i v : ℕ) {x y : ℕ} → y ≡ v ⊕ flat s l (from + k) (2 * i)
    → x ≡ y ⊕ (get_or s (get_or l (2 * i) 0 + from + k) 0 ⊕ get_or s (get_or l (2 * i + 1) 0 + from + k) 0) → x ≡ v ⊕ flat s l (from + k) (2 * (i + 1))
more_at s l from k i v ey ex =
    let e : 2 * (i + 1) ≡ 2 * i + 2 = omega arith in
    ex ∙ ap₂ ◌⊕◌ ey (ap₂ ◌⊕◌ (read_at s (get_or l (2 * i) 0) from k) (read_at s (get_or l (2 * i + 1) 0) from k))
    ∙ ⊕_assoc _ _ _ ∙ ap (λ (z : ℕ). v ⊕ z) (sym (ap (flat s l (from + k)) e ∙ flat_two s l (from + k) (2 * i)))

-- fewer bytes
pub fits_less : {s out l : List ℕ} {x : Sum} {to : ℕ} → Fits s out l x to → (less : ℕ) → less ≤ to → Fits s out l x less
fits_less f less h = record {
  small = f.small;
  long = f.long;
  few = f.few;
  even = f.even;
  each = λ i lt. omega (arith, f.each i lt);
  a_in = omega (arith, f.a_in);
  b_in = omega (arith, f.b_in);
  b_small = omega (arith, f.b_small);
}

-- a buffer as long
pub fits_like : {s out out' l : List ℕ} {x : Sum} {to : ℕ} → length out' ≡ length out → Fits s out l x to → Fits s out' l x to
fits_like {s} {out} {out'} {l} {x} e f = record {
  small = f.small;
  long = f.long;
  few = f.few;
  even = f.even;
  each = f.each;
  a_in = f.a_in;
  b_in = at x.b f.b_in;
  b_small = f.b_small;
}
  where
    at : (b : Lies) {n : ℕ} → n ≤ length (part_of s out b) → n ≤ length (part_of s out' b)
    at (Stripe b) h = h
    at (Buffer b) h = omega arith

-- ---- one stretch after another

-- fewer bytes of the symbol
pub clear_less : (x : Sum) (at w less : ℕ) → less ≤ w → Clear x at w → Clear x at less
clear_less x at w less h clear b q = ⊎_elim (λ z. inl (omega arith)) (⊎_elim (λ z. inr (inl (omega arith))) (λ z. inr (inr z))) (clear b q)

-- a stretch of len bytes
pub summed_of : (s l : List ℕ) (x : Sum) (at from len : ℕ) {g : ℕ → ℕ} {out out' : List ℕ} → Spanned g out out' (at + from) len
    → ((t : ℕ) → t < len → g t ≡ summed s out l x (from + t)) → Summed s l x at from (from + len) out out'
summed_of s l x at from len {g} {out} {out'} u e =
    let f : from + len - from ≡ len = omega arith in
    rw f (span_same (λ t. summed s out l x (from + t)) u refl e)

module _ (s l : List ℕ) (x : Sum) (at w : ℕ) (clear : Clear x at w) (out out₁ out₂ : List ℕ) (lo mid hi : ℕ) (a : lo ≤ mid) (b : mid ≤ hi) (c : hi ≤ w)
    (one : Summed s l x at lo mid out out₁) (two : Summed s l x at mid hi out₁ out₂) where
  -- what was asked for is still there
  kept : (t : ℕ) → mid ≤ t → t < hi → (b : ℕ) → x.b ≡ Buffer b → get_or out₁ (b + t) 0 ≡ get_or out (b + t) 0
  kept t h k b q =
      one.rest (b + t) (⊎_elim (λ z. inr (omega arith)) (⊎_elim (λ z. inl (omega arith)) (λ z. inr (omega arith))) (clear b q))

  same : (t : ℕ) → mid ≤ t → t < hi → summed s out₁ l x t ≡ summed s out l x t
  unfolding summed
  same t h k = ap (λ (z : ℕ). (get_or s (x.a + t) 0 ⊕ z) ⊕ flat s l t x.count) (pick x.b (kept t h k))
    where
      pick : (y : Lies) → ((b : ℕ) → y ≡ Buffer b → get_or out₁ (b + t) 0 ≡ get_or out (b + t) 0)
          → get_or (part_of s out₁ y) (start_of y + t) 0 ≡ get_or (part_of s out y) (start_of y + t) 0
      pick (Stripe b) f = refl
      pick (Buffer b) f = f b refl

  pub summed_then : Summed s l x at lo hi out out₂
  summed_then = rw long (span_then (λ t. summed s out l x (lo + t)) one (span_same (λ t. summed s out l x (lo + (mid - lo + t))) two (omega arith) next))
    where
      long : hi - lo ≡ mid - lo + (hi - mid)
      long = omega arith

      next : (t : ℕ) → t < hi - mid → summed s out₁ l x (mid + t) ≡ summed s out l x (lo + (mid - lo + t))
      next t h = let e : mid + t ≡ lo + (mid - lo + t) = omega arith in same (mid + t) (omega arith) (omega arith) ∙ ap (summed s out l x) e

-- nothing yet
pub summed_none : (s l : List ℕ) (x : Sum) (at lo : ℕ) (out : List ℕ) → Summed s l x at lo lo out out
summed_none s l x at lo out = record { long = refl; at = λ t h. absurd (omega arith); rest = λ i h. refl }
