-- How check counts, in the code's own words: a block more of a chain's bits, and a chain more.
-- To cite: counts_of and bits_then for the blocks; count_start, chain_sound, chain_broken and bits_more for the chains; bits_front and bits_at to read them.
use mathlib.Core.Path.{◌≡◌, refl, sym, ap, ap₂, ◌∙◌, subst}
use mathlib.Core.Logic.{◌≢◌}
use mathlib.Core.Bool.{Bool, true, false, not, cond}
use mathlib.Core.List.{List}
use Prim.Native.Nat.{ℕ, ◌+◌, ◌-◌, ◌*◌, ◌≤◌, ◌<◌}
use native.Mathlib.Numerals.{add-one}
use native.Mathlib.Omega.{arith}
use borrow.Author.Tests.{eqb-true, eq-eqb, not-false}
use borrow.Author.Count.{below_more}
use lib.Count.{ones}
use lib.ListN.{length, get_or, set, take}
use Rattle.std.proofs.lemmas.List.{length-take, length-take-le, get_or-take}
use lib.Seq.{get_or-set_same, get_or-set_other}
use Rattle.xor.specs.Total.{total}
use Rattle.xor.proofs.TotalLaws.{total_join, total_zero}
use Rattle.looking.proofs.OnesLaws.{ones_zero, ones_none, total_clear}
use Rattle.shape.specs.declared.Shape.{Shape}
use Rattle.rule.specs.Rule.{differs}
use Rattle.checking.specs.Check.{count, breaks, chain_bits}
use Rattle.checking.specs.Bits.{Counts, Chain, Bits}
use Rattle.checking.proofs.CheckLaws.{some_false}

-- ---- one test more

pub count_start : (f : ℕ → Bool) → 0 ≡ count 0 f
unfolding count
count_start f = refl

count_more : (f : ℕ → Bool) (k : ℕ) (b : Bool) {r : ℕ} → f k ≡ b → r ≡ count k f → r + cond b 1 0 ≡ count (k + 1) f
unfolding count
count_more f k b e h = ap₂ (λ (x : ℕ) (y : Bool). x + cond y 1 0) h (sym e) ∙ ap (λ (j : ℕ). count j f) (sym (add-one k))

module _ (sh : Shape) (s : List ℕ) where
  -- the bits of chain p in its first bytes
  abbrev pub bits : ℕ → ℕ → ℕ
  bits p to = total to (λ t. ones (differs sh s p t))

  -- a stretch whose bits are v
  pub counts_of : (p from len : ℕ) {x y v : ℕ} → v ≡ total len (λ t. ones (differs sh s p (from + t))) → v ≤ 8 * len → y ≡ x + v → Counts sh s p from (from + len) x y
  counts_of p from len {x} ev most ey =
      let e : len ≡ from + len - from = omega arith in record {
        sum = ey ∙ ap (λ (u : ℕ). x + u) (ev ∙ ap (λ (k : ℕ). total k (λ t. ones (differs sh s p (from + t)))) e);
        most = omega arith;
      }

  -- one stretch after another
  pub bits_then : {p q a b x y : ℕ} → q ≡ p → a ≤ b → x ≡ bits p a → Counts sh s q a b x y → y ≡ bits p b
  bits_then {p} {q} {a} {b} e l ex h =
      let f : a + (b - a) ≡ b = omega arith in
      h.sum ∙ ap₂ (λ (u k : ℕ). u + total (b - a) (λ t. ones (differs sh s k (a + t)))) ex e ∙ sym (total_join a (b - a) (λ t. ones (differs sh s p t)))
      ∙ ap (bits p) f

  -- a chain breaks the rule exactly where its bits are not 0
  sound_bits : (p : ℕ) → breaks sh s p ≡ false → chain_bits sh s p ≡ 0
  unfolding breaks
  sound_bits p e = total_zero sh.w _ (λ t h. ap ones (eqb-true _ _ (not-false _ ((some_false sh.w _).0 e t h))) ∙ ones_zero)

  bits_sound : (p : ℕ) → chain_bits sh s p ≡ 0 → breaks sh s p ≡ false
  unfolding breaks
  bits_sound p e = (some_false sh.w _).1 (λ t h. ap not (eq-eqb _ _ (ones_none _ (total_clear sh.w (λ t. ones (differs sh s p t)) e t h))))

  bits_broken : (p : ℕ) → 0 < chain_bits sh s p → breaks sh s p ≡ true
  bits_broken p h = at (breaks sh s p) refl
    where
      at : (b : Bool) → breaks sh s p ≡ b → breaks sh s p ≡ true
      at true e = e
      at false e = absurd (omega (arith, sound_bits p e))

  -- a chain more, which is not broken or is
  pub chain_sound : (p : ℕ) {r v : ℕ} → r ≡ count p (breaks sh s) → v ≡ chain_bits sh s p → v ≡ 0 → r ≡ count (p + 1) (breaks sh s)
  chain_sound p {r} h e z = let n : r ≡ r + 0 = omega arith in n ∙ count_more (breaks sh s) p false (bits_sound p (omega arith)) h

  pub chain_broken : (p : ℕ) {r v : ℕ} → r ≡ count p (breaks sh s) → v ≡ chain_bits sh s p → v ≢ 0 → r + 1 ≡ count (p + 1) (breaks sh s)
  chain_broken p {r} h e z = count_more (breaks sh s) p true (bits_broken p (omega arith)) h

  -- the bits of a chain more, in the list
  pub bits_more : (xs : List ℕ) (p v : ℕ) → p < length xs → Chain sh s p v → ((q : ℕ) → q < p → Chain sh s q (get_or xs q 0))
      → (q : ℕ) → q < p + 1 → Chain sh s q (get_or (set xs p v) q 0)
  bits_more xs p v l h all =
      below_more (λ q. Chain sh s q (get_or (set xs p v) q 0)) p
      (λ q k. subst (Chain sh s q) (sym (get_or-set_other xs p q v 0 (λ e. omega arith))) (all q k))
      (subst (Chain sh s p) (sym (get_or-set_same xs p v 0 l)) h)

  -- the bits of the chains of the shape, which are the front of the list
  module _ (xs : List ℕ) (bits : Bits sh s xs) where
    pub bits_front : sh.n ≤ 64 → length (take sh.n xs) ≡ sh.n
    bits_front few = length-take-le sh.n xs (omega (arith, bits.whole))

    pub bits_at : (p : ℕ) → p < length (take sh.n xs) → Chain sh s p (get_or (take sh.n xs) p 0)
    bits_at p h =
        let k : p < sh.n = omega (arith, length-take sh.n xs) in subst (Chain sh s p) (sym (get_or-take sh.n xs p 0 k)) (bits.at p k)
