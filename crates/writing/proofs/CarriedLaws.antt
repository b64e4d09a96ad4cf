-- Small write, done by carrying the change into both parities and then storing the symbol: there is a stripe that small write leaves, the change
-- stands in its two parities and in no other (`two_parities`), and so it is the stripe that these three steps leave.
use mathlib.Core.Path.{◌≡◌, refl, sym, ap₂, ◌∙◌, subst}
use mathlib.Core.Logic.{◌≢◌, ◌⊎◌, inl, inr}
use mathlib.Core.List.{List}
use Prim.Native.Nat.{ℕ, zero, suc, ◌≤◌, ◌<◌}
use native.Mathlib.Omega.{arith}
use native.Mathlib.Decide.{ℕ_discrete}
use lib.ListN.{length, get_or}
use Rattle.xor.specs.Xor.{◌⊕◌}
use Rattle.shape.specs.declared.Shape.{Shape}
use Rattle.std.specs.Prelude.{Ok}
use Rattle.shape.specs.Good.{Good, size}
use Rattle.shape.specs.Place.{height, byte}
use Rattle.shape.specs.Step.{left, right}
use Rattle.answer.specs.Answers.{number, First}
use Rattle.shape.proofs.PlaceLaws.{byte_ext}
use Rattle.shape.proofs.StepLaws.{left_lt, right_lt}
use Rattle.answer.proofs.AnswersLaws.{number_done, first_one}
use Rattle.shape.proofs.GoodLaws.{good_m, good_w, good_room}
use Rattle.rule.proofs.RuleLaws.{chain_apart}
use Rattle.storing.specs.Set.{Set}
use Rattle.writing.specs.Carried.{Carried}
use Rattle.writing.specs.Write.{write_table, Written, SmallWrite}
use Rattle.storing.proofs.Struck.{struck_same}
use Rattle.writing.proofs.WriteLaws.{write_some}
use Rattle.writing.proofs.Parities.{two_parities}

module _ (sh : Shape) (good : Good sh) (s : List ℕ) (len : length s ≡ size sh) (c : ℕ) (hc : c < sh.n) (h : ℕ) (lo : 1 ≤ h) (hi : h < sh.m)
    (x one two s' : List ℕ) (u : Carried sh s h c (left sh.n c h) x one) (v : Carried sh one h c (right sh.n c h) x two) (w : Set sh two h c x s') where
  steps_long : length s' ≡ length s
  steps_long = w.long ∙ v.long ∙ u.long

  -- the three steps leave the other information as it was
  steps_information : (d j t : ℕ) → 1 ≤ d → d < sh.m → j < sh.n → t < sh.w → (d ≢ h) ⊎ (j ≢ c) → byte sh s' t d j ≡ byte sh s t d j
  steps_information d j t pos hd hj ht ne =
      w.rest d j t hd hj ht ne ∙ v.rest d j t hd hj ht (inl (λ e. omega arith)) ∙ u.rest d j t hd hj ht (inl (λ e. omega arith))

  module _ (t : ℕ) (ht : t < sh.w) where
    change : ℕ
    change = byte sh s t h c ⊕ get_or x t 0

    wide : h < sh.n
    wide = omega (arith, good_room sh good)

    -- the two chains are different
    differ : left sh.n c h ≢ right sh.n c h
    differ e = omega (arith, ((chain_apart sh.m sh.n (good_room sh good) c h h hc hi hi).2 e).0)

    parity_kept : (p : ℕ) → p < sh.n → byte sh s' t 0 p ≡ byte sh two t 0 p
    parity_kept p hp = w.rest 0 p t (good_m sh good) hp ht (inl (λ e. omega arith))

    steps_left : byte sh s' t 0 (left sh.n c h) ≡ byte sh s t 0 (left sh.n c h) ⊕ change
    unfolding change
    steps_left = let l = left_lt sh.n c h hc wide in
        parity_kept _ l ∙ v.rest 0 _ t (good_m sh good) l ht (inr differ) ∙ u.parity t ht

    steps_right : byte sh s' t 0 (right sh.n c h) ≡ byte sh s t 0 (right sh.n c h) ⊕ change
    unfolding change
    steps_right = let l = right_lt sh.n c h hc wide in
        parity_kept _ l ∙ v.parity t ht
        ∙ ap₂ (λ (a b : ℕ). a ⊕ (b ⊕ get_or x t 0)) (u.rest 0 _ t (good_m sh good) l ht (inr (λ e. differ (sym e)))) (u.rest h c t hi hc ht (inl (λ e. omega arith)))

    steps_out : (p : ℕ) → p < sh.n → p ≢ left sh.n c h → p ≢ right sh.n c h → byte sh s' t 0 p ≡ byte sh s t 0 p
    steps_out p hp f g = parity_kept p hp ∙ v.rest 0 p t (good_m sh good) hp ht (inr g) ∙ u.rest 0 p t (good_m sh good) hp ht (inr f)

  -- so they leave what any small write leaves
  module _ (r : ℕ) (e : h ≡ height sh r) (passed : First (write_table sh s c r x) 0) where
    module _ (y : List ℕ) (z : SmallWrite sh s c r x (Ok tt) y) where
      written : Written sh s c r x y
      unfolding number
      written = z.done refl

      same_information : (d j t : ℕ) → 1 ≤ d → d < sh.m → j < sh.n → t < sh.w → byte sh s' t d j ≡ byte sh y t d j
      same_information d j t pos hd hj ht =
          struck_same sh s' y h c d j t (w.new t ht ∙ sym (rw (← e) at (written.new t ht)))
          (λ ne. steps_information d j t pos hd hj ht ne ∙ sym (written.information d j t pos hd hj ht (rw e at ne)))

      same_parity : (p t : ℕ) → p < sh.n → t < sh.w → byte sh s' t 0 p ≡ byte sh y t 0 p
      unfolding change
      same_parity p t hp ht = at (ℕ_discrete p (left sh.n c h)) (ℕ_discrete p (right sh.n c h))
        where
          both : ((p ≡ left sh.n c h) ⊎ (p ≡ right sh.n c h) → byte sh y t 0 p ≡ byte sh s t 0 p ⊕ (byte sh s t h c ⊕ get_or x t 0))
              × (p ≢ left sh.n c h → p ≢ right sh.n c h → byte sh y t 0 p ≡ byte sh s t 0 p)
          both = rw e (two_parities sh s c r x y z p t hp ht)

          at : Dec (p ≡ left sh.n c h) → Dec (p ≡ right sh.n c h) → byte sh s' t 0 p ≡ byte sh y t 0 p
          at (yes f) g = rw (← f) at (steps_left t ht) ∙ sym (both.0 (inl f))
          at (no f) (yes g) = rw (← g) at (steps_right t ht) ∙ sym (both.0 (inr g))
          at (no f) (no g) = steps_out t ht p hp f g ∙ sym (both.1 f g)

      same : s' ≡ y
      same = byte_ext sh (good_m sh good) (good_w sh good) s' y (steps_long ∙ len) (written.long ∙ len) at
        where
          at : (d j t : ℕ) → d < sh.m → j < sh.n → t < sh.w → byte sh s' t d j ≡ byte sh y t d j
          at zero j t hd hj ht = same_parity j t hj ht
          at (suc d) j t hd hj ht = same_information (suc d) j t (omega arith) hd hj ht

    pub steps_written : Written sh s c r x s'
    unfolding number
    steps_written = let (a, y, z) = write_some sh s c r x in
        let done : a ≡ (Ok tt) = (number_done a).0 (first_one (write_table sh s c r x) _ _ z.answer passed) in
        let z' : SmallWrite sh s c r x (Ok tt) y = rw done at z in
        subst (λ (l : List ℕ). Written sh s c r x l) (sym (same y z')) (written y z')
