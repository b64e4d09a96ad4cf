-- Small write XORs the change into its two parity symbols, those of chains c-d and c+d for the row's height d, and into no other.
use mathlib.Core.Path.{◌≡◌, refl, sym, ap, ap₂, ◌∙◌}
use mathlib.Core.Logic.{◌≢◌, ◌⊎◌, inl, inr}
use mathlib.Core.Bool.{cond}
use mathlib.Core.List.{List}
use Prim.Native.Nat.{ℕ, ◌+◌, ◌-◌, ◌≤◌, ◌<◌}
use native.Mathlib.Omega.{arith}
use native.Mathlib.Decide.{ℕ_discrete}
use lib.ListN.{get_or}
use lib.Dec.{eqb}
use borrow.Author.Tests.{eq-eqb, ne_eqb}
use Rattle.xor.specs.Xor.{◌⊕◌}
use Rattle.xor.proofs.XorLaws.{⊕_laws, ⊕_off, ⊕_cancel, ⊕_zero_l, ⊕_zero_r}
use Rattle.shape.specs.declared.Shape.{Shape}
use Rattle.std.specs.Prelude.{Ok}
use Rattle.shape.specs.Place.{height, byte}
use Rattle.shape.specs.Step.{left, right}
use Rattle.answer.specs.Answers.{number}
use Rattle.answer.proofs.AnswersLaws.{first_clear}
use Rattle.shape.proofs.GoodLaws.{good_m, good_room, stripe_clear}
use Rattle.rule.specs.Rule.{Grid, others, chain, differs}
use Rattle.rule.proofs.ChainLaws.{others_cong, others_xor}
use Rattle.rule.proofs.Only.{only, only_here, only_there, only_left, only_right, only_away, only_cases}
use Rattle.writing.specs.Write.{write_table, Written, SmallWrite}
use Rattle.storing.proofs.Struck.{struck_lt}

module _ (sh : Shape) (pos : 1 ≤ sh.m) (room : sh.m + sh.m ≤ sh.n + 1) (s : List ℕ) (c r : ℕ) (z x : List ℕ) (hc : c < sh.n)
    (lo : 1 ≤ height sh r) (hi : height sh r < sh.m) (w : Written sh s c r z x) (t : ℕ) (ht : t < sh.w) where
  change : ℕ
  change = byte sh s t (height sh r) c ⊕ get_or z t 0

  -- the change, at its height in every column
  M : Grid
  M d j = cond (eqb d (height sh r)) change 0

  hit : (d : ℕ) → d ≡ height sh r → M d c ≡ change
  unfolding M
  hit d e = rw (eq-eqb d (height sh r) e)

  miss : (d : ℕ) → d ≢ height sh r → (j : ℕ) → M d j ≡ 0
  unfolding M
  miss d ne j = rw (ne_eqb d (height sh r) ne)

  -- the information as left: as lent, with the change in one symbol of column c
  cell : (d j : ℕ) → 1 ≤ d → d < sh.m → j < sh.n → byte sh x t d j ≡ byte sh s t d j ⊕ only c M d j
  unfolding change
  cell d j lo hd hj = at (ℕ_discrete j c) (ℕ_discrete d (height sh r))
    where
      at : Dec (j ≡ c) → Dec (d ≡ height sh r) → byte sh x t d j ≡ byte sh s t d j ⊕ only c M d j
      at (yes e) (yes f) =
          ap₂ (byte sh x t) f e ∙ w.new t ht ∙ sym (ap₂ ◌⊕◌ (ap₂ (byte sh s t) f e) (only_here c M d j e ∙ hit d f) ∙ ⊕_cancel _ _)
      at (yes e) (no f) = w.information d j t lo hd hj ht (inl f) ∙ sym (ap (λ (v : ℕ). byte sh s t d j ⊕ v) (only_here c M d j e ∙ miss d f c) ∙ ⊕_zero_r _)
      at (no e) f = w.information d j t lo hd hj ht (inr e) ∙ sym (ap (λ (v : ℕ). byte sh s t d j ⊕ v) (only_there c M d j e) ∙ ⊕_zero_r _)

  -- so the parity as left is as lent with what that change does to the chain
  moved : (p : ℕ) → p < sh.n → byte sh x t 0 p ≡ byte sh s t 0 p ⊕ chain sh.m sh.n (only c M) p
  unfolding differs chain
  moved p hp =
      solve _ _ (others sh.m sh.n (byte sh s t) p) _
      (ap (λ (v : ℕ). byte sh x t 0 p ⊕ v) (sym (
      others_cong sh.m sh.n (omega (arith, room)) p hp (byte sh x t) (λ d j. byte sh s t d j ⊕ only c M d j) cell
      ∙ others_xor sh.m sh.n (byte sh s t) (only c M) p))
      ∙ w.chains p t hp ht)
      ∙ ap (λ (v : ℕ). byte sh s t 0 p ⊕ v) (sym (ap (λ (v : ℕ). v ⊕ others sh.m sh.n (only c M) p) (flat (ℕ_discrete p c)) ∙ ⊕_zero_l _))
    where
      solve : (a b o q : ℕ) → a ⊕ (o ⊕ q) ≡ b ⊕ o → a ≡ b ⊕ q
      solve a b o q e = ⊕_off a (b ⊕ q) (o ⊕ q) (e ∙ simp ⊕_laws)

      flat : Dec (p ≡ c) → only c M 0 p ≡ 0
      flat (yes e) = only_here c M 0 p e ∙ miss 0 (λ e. omega arith) c
      flat (no ne) = only_there c M 0 p ne

  written_in : (p : ℕ) → p < sh.n → (p ≡ left sh.n c (height sh r)) ⊎ (p ≡ right sh.n c (height sh r)) → byte sh x t 0 p ≡ byte sh s t 0 p ⊕ change
  written_in p hp h = moved p hp ∙ ap (λ (v : ℕ). byte sh s t 0 p ⊕ v) (at h)
    where
      at : (p ≡ left sh.n c (height sh r)) ⊎ (p ≡ right sh.n c (height sh r)) → chain sh.m sh.n (only c M) p ≡ change
      at (inl e) = ap (chain sh.m sh.n (only c M)) e ∙ only_left sh.m sh.n room pos c hc M (height sh r) hi ∙ hit (height sh r) refl
      at (inr e) = ap (chain sh.m sh.n (only c M)) e ∙ only_right sh.m sh.n room pos c hc M (height sh r) hi ∙ hit (height sh r) refl

  written_out : (p : ℕ) → p < sh.n → p ≢ left sh.n c (height sh r) → p ≢ right sh.n c (height sh r) → byte sh x t 0 p ≡ byte sh s t 0 p
  written_out p hp f g = moved p hp ∙ ap (λ (v : ℕ). byte sh s t 0 p ⊕ v) none ∙ ⊕_zero_r _
    where
      none : chain sh.m sh.n (only c M) p ≡ 0
      none = only_cases sh.m sh.n c p
          (λ d hd e. ap (chain sh.m sh.n (only c M)) e ∙ only_left sh.m sh.n room pos c hc M d hd ∙ miss d (λ u. f (e ∙ ap (left sh.n c) u)) c)
          (λ d hd e. ap (chain sh.m sh.n (only c M)) e ∙ only_right sh.m sh.n room pos c hc M d hd ∙ miss d (λ u. g (e ∙ ap (right sh.n c) u)) c)
          (only_away sh.m sh.n room pos c hc M p hp)

pub two_parities : (sh : Shape) (s : List ℕ) (c r : ℕ) (z x : List ℕ) → SmallWrite sh s c r z (Ok tt) x → (p t : ℕ) → p < sh.n → t < sh.w
    → ((p ≡ left sh.n c (height sh r)) ⊎ (p ≡ right sh.n c (height sh r))
    → byte sh x t 0 p ≡ byte sh s t 0 p ⊕ (byte sh s t (height sh r) c ⊕ get_or z t 0))
    × (p ≢ left sh.n c (height sh r) → p ≢ right sh.n c (height sh r) → byte sh x t 0 p ≡ byte sh s t 0 p)
unfolding number write_table height change
two_parities sh s c r z x w p t hp ht =
    let (good, len, more) = stripe_clear sh s _ w.answer in
    let (hc, hr) = struck_lt sh.n (sh.m - 1) sh.w c r z (first_clear 5 more).0 in (
      written_in sh (good_m sh good) (good_room sh good) s c r z x hc (omega arith) (omega (arith, good_m sh good)) (w.done refl) t ht p hp,
      written_out sh (good_m sh good) (good_room sh good) s c r z x hc (omega arith) (omega (arith, good_m sh good)) (w.done refl) t ht p hp,
    )
