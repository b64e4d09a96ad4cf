-- Laws of a line's text. To cite: digits_are, the digits that the kit writes are `digits`; digits_few, a number of 64 bits has at most 20;
-- put_from, a field that was put; front_none and front_more for a line that grows by a field.
use mathlib.Core.Path.{◌≡◌, refl, sym, ap, ap₂, ◌∙◌}
use mathlib.Core.List.{List, [], ◌∷◌, ◌++◌}
use Prim.Native.Nat.{ℕ, zero, suc, ◌+◌, ◌-◌, ◌/◌, ◌%◌, ◌^◌, ◌≤◌, ◌<◌}
use native.Mathlib.Nat.{pow-zero, pow-suc, pow-le-pow_right, mod-eq_of_lt, lt_of_not-le}
use native.Mathlib.Decide.{dec_le}
use native.Mathlib.Omega.{arith}
use borrow.Author.Tests.{lt-ltb, le-ltb}
use lib.ListN.{length, take, drop, set, length-append, length-drop}
use lib.Seq.{length-take-le, take_at, drop-append-add, drop-drop}
use borrow.Rule.Slice.PartMut.{put_mid}
use Rattle.std.proofs.lemmas.Slice.{take-put_mid, drop-put_mid}
use Rattle.std.proofs.lemmas.List.{set_split, append_assoc}
use Rattle.io.specs.Digits.{IsDigitCount, last_digits as kit_digits}
use Rattle.line.specs.Printed.{digits_within, digits, field}
use Rattle.line.specs.Printing.{Put}

-- a number is below the power of ten that it counts
below_power : (k : ℕ) → k < 10 ^ k
below_power zero = omega (arith, pow-zero 10)
below_power (suc k) = omega (arith, below_power k, pow-suc 10 k)

-- a number that takes two digits or more is at least a power of ten
at_least : (n k : ℕ) → IsDigitCount 10 1 n (suc (suc k)) → 10 ^ suc k ≤ n
at_least n k f = let e : suc (suc k) - 1 ≡ suc k = omega arith in rw e at (f.2 (omega arith))

-- the tenth part takes one digit less
fewest_tenth : (n k : ℕ) → IsDigitCount 10 1 n (suc (suc k)) → IsDigitCount 10 1 (n / 10) (suc k)
fewest_tenth n k f =
    let e : suc k - 1 ≡ k = omega arith in
    (omega arith, omega (arith, f.1, pow-suc 10 (suc k)), λ l. rw e (omega (arith, at_least n k f, pow-suc 10 k)))

-- the kit's digits, with room for as many
same_digits : (r most n : ℕ) → r ≤ most → IsDigitCount 10 1 n r → kit_digits 10 r n ≡ digits_within most n
unfolding digits_within
same_digits zero most n l f = absurd (omega (arith, f.0))
same_digits (suc k) zero n l f = absurd (omega arith)
same_digits (suc zero) (suc most) n l f =
    let s : n < 10 = omega (arith, f.1, pow-suc 10 0, pow-zero 10) in
    rw (mod-eq_of_lt s) (rw (lt-ltb n 10 s) refl)
same_digits (suc (suc k)) (suc most) n l f =
    let b : 10 ≤ n = omega (arith, at_least n k f, pow-suc 10 k, below_power k) in
    rw (le-ltb n 10 b) (rw (lt-ltb (n % 10) 10 (omega arith)) (ap (λ (xs : List ℕ). xs ++ ((48 + n % 10) ∷ [])) (same_digits (suc k) most (n / 10) (omega arith) (fewest_tenth n k f))))

-- the fewest digits are no more than one above the number
fewest_within : (n r : ℕ) → IsDigitCount 10 1 n r → r ≤ suc n
fewest_within n zero f = omega arith
fewest_within n (suc zero) f = omega arith
fewest_within n (suc (suc k)) f = omega (arith, at_least n k f, below_power (suc k))

pub digits_are : (n r : ℕ) → IsDigitCount 10 1 n r → kit_digits 10 r n ≡ digits n
unfolding digits
digits_are n r f = same_digits r (suc n) n (fewest_within n r f) f

pub digits_few : (n r : ℕ) → n < 18446744073709551616 → IsDigitCount 10 1 n r → r ≤ 20
digits_few n zero l f = omega arith
digits_few n (suc zero) l f = omega arith
digits_few n (suc (suc k)) l f = few (dec_le (suc (suc k)) 20) where
  few : Dec (suc (suc k) ≤ 20) → suc (suc k) ≤ 20
  few (yes s) = s
  few (no s) =
      let g : 19 ≤ k = omega (arith, lt_of_not-le s) in
      let p : 10 ^ 20 ≤ 10 ^ suc k = pow-le-pow_right (omega arith) {i = 20} {j = suc k} (omega arith) in
      absurd (omega (arith, p, at_least n k f))

-- ---- a field in the buffer

-- the digits copied, then the byte after them stored
pub put_from : (n mark count : ℕ) (ys s : List ℕ) (at k : ℕ) → count ≡ length ys → ys ≡ digits n → count ≤ 20 → at + 21 ≤ length s → k ≡ count
    → Put (field n mark) s at (at + count + 1) (set (put_mid at k s ys) (at + count) mark)
unfolding field
put_from n mark count ys s at k q e few fit ek =
    let l = put_mid at k s ys in
    let end = at + count in
    let last : List ℕ = mark ∷ [] in
    let back = drop (suc end) s in
    let rest = drop k (drop at s) in
    let long : length l ≡ length s = omega (arith, length-append (take at s) (ys ++ rest), length-append ys rest, length-take-le at s (omega arith), length-drop k (drop at s), length-drop at s, q, ek) in
    let before : take end l ≡ take at s ++ ys = take-put_mid at k s ys end (omega (arith, q)) (omega arith) in
    let after : drop (suc end) l ≡ back = drop-put_mid at k s ys (suc end) (omega (arith, ek)) (omega arith) (omega (arith, q, ek)) in
    let many : length (digits n ++ last) ≡ count + 1 = rw (sym e) (omega (arith, q, length-append ys last)) in
    let one : suc end ≡ end + 1 = omega arith in
    record {
      next = omega (arith, many);
      most = omega (arith, many);
      left = set_split l end mark (omega (arith, long)) ∙ ap₂ (λ (xs zs : List ℕ). xs ++ (mark ∷ zs)) before after ∙ sym (append_assoc (take at s ++ ys) last back)
          ∙ ap (λ (xs : List ℕ). xs ++ back) (append_assoc (take at s) ys last) ∙ ap₂ (λ (xs : List ℕ) (j : ℕ). take at s ++ (xs ++ last) ++ drop j s) e one;
    }

-- ---- a line that grows

-- the line so far, p, over the start of the buffer
pub record Front (p s : List ℕ) (at : ℕ) (s' : List ℕ) : Type 0 where
  pub long : at ≡ length p
  pub is : s' ≡ p ++ drop (length p) s

pub front_none : (s : List ℕ) → Front [] s 0 s
front_none s = record { long = refl; is = refl }

-- one field more
pub front_more : {p s s₁ : List ℕ} {at : ℕ} {f s₂ : List ℕ} {r : ℕ} → Front p s at s₁ → Put f s₁ at r s₂ → Front (p ++ f) s r s₂
front_more {p} {s} {s₁} {at} {f} {s₂} {r} u w =
    let e : r ≡ length p + length f = omega (arith, u.long, w.next) in
    let front : take at s₁ ≡ p = ap (take at) u.is ∙ take_at p (drop (length p) s) at (sym u.long) in
    let back : drop r s₁ ≡ drop (length (p ++ f)) s =
    ap (drop r) u.is ∙ ap (λ (j : ℕ). drop j (p ++ drop (length p) s)) e ∙ drop-append-add p (drop (length p) s) (length f) ∙ drop-drop (length f) (length p) s
    ∙ ap (λ (j : ℕ). drop j s) (sym (length-append p f)) in
    record {
      long = e ∙ sym (length-append p f);
      is = w.left ∙ ap (λ (xs : List ℕ). xs ++ f ++ drop r s₁) front ∙ ap (λ (ys : List ℕ). p ++ f ++ ys) back;
    }
