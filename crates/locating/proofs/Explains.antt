-- Locate's way of looking is its meaning: a column explains every difference exactly when a change within it alone makes the stripe sound.
-- With 2m-1 ≤ n. The change that column c needs at height d is what chain c-d differs by.
use mathlib.Core.Path.{◌≡◌, sym, ap, ◌∙◌, subst}
use mathlib.Core.Logic.{◌↔◌}
use mathlib.Core.Bool.{Bool, true, false, cond}
use mathlib.Core.List.{List}
use Prim.Native.Nat.{ℕ, zero, suc, ◌+◌, ◌≤◌, ◌<◌}
use native.Mathlib.Omega.{arith}
use native.Mathlib.Decide.{ℕ_discrete}
use lib.ListN.{length}
use lib.Dec.{eqb}
use Rattle.xor.specs.Xor.{◌⊕◌}
use Rattle.xor.proofs.XorLaws.{⊕_laws, ⊕_lt, ⊕_same, ⊕_zero_l, ⊕_zero_r}
use Rattle.shape.specs.declared.Shape.{Shape}
use Rattle.shape.specs.Good.{size}
use Rattle.shape.specs.Place.{byte}
use Rattle.shape.specs.Step.{left, right}
use Rattle.shape.proofs.StepLaws.{left_lt, right_lt, left_zero, right_zero}
use Rattle.shape.proofs.PlaceLaws.{byte_small}
use Rattle.shape.proofs.Made.{made, length_made, get_or_made, byte_made}
use Rattle.rule.specs.Rule.{Grid, chain, differs}
use Rattle.rule.specs.Losses.{Bytes}
use Rattle.rule.proofs.ChainLaws.{chain_xor, chain_cong, chain_lt}
use Rattle.rule.proofs.Only.{only, only_here, only_there, only_left, only_right, only_away, only_cases}
use Rattle.rule.proofs.RuleLaws.{obeys_differs}
use Rattle.locating.specs.Locate.{Mends, Explains}

module _ (sh : Shape) (pos : 1 ≤ sh.m) (room : sh.m + sh.m ≤ sh.n + 1) (s : List ℕ) (len : length s ≡ size sh) (c : ℕ) (hc : c < sh.n) where
  -- what a change within column c does to each chain
  module _ (x : List ℕ) (D : ℕ → Grid)
      (cell : (t d j : ℕ) → d < sh.m → j < sh.n → t < sh.w → byte sh s t d j ≡ byte sh x t d j ⊕ only c (D t) d j) where
    moved : (p t : ℕ) → p < sh.n → t < sh.w → differs sh s p t ≡ differs sh x p t ⊕ chain sh.m sh.n (only c (D t)) p
    unfolding differs
    moved p t hp ht =
        chain_cong sh.m sh.n (omega (arith, room)) p hp pos (byte sh s t) (λ d j. byte sh x t d j ⊕ only c (D t) d j) (λ d j hd hj. cell t d j hd hj ht)
        ∙ chain_xor sh.m sh.n (byte sh x t) (only c (D t)) p

  mends_explains : Mends sh s c → Explains sh s c
  mends_explains (hc', x, sol) = record {
    pairs = λ d t lo hd ht.
        by (left sh.n c d) t (left_lt sh.n c d hc (omega (arith, room))) ht ∙ only_left sh.m sh.n room pos c hc (D t) d hd
        ∙ sym (by (right sh.n c d) t (right_lt sh.n c d hc (omega (arith, room))) ht ∙ only_right sh.m sh.n room pos c hc (D t) d hd);
    outside = λ p t hp ht far. by p t hp ht ∙ only_away sh.m sh.n room pos c hc (D t) p hp far;
  }
    where
      D : ℕ → Grid
      D t d j = byte sh s t d j ⊕ byte sh x t d j

      cell : (t d j : ℕ) → d < sh.m → j < sh.n → t < sh.w → byte sh s t d j ≡ byte sh x t d j ⊕ only c (D t) d j
      cell t d j hd hj ht = at (ℕ_discrete j c)
        where
          at : Dec (j ≡ c) → byte sh s t d j ≡ byte sh x t d j ⊕ only c (D t) d j
          at (yes e) = rw (only_here c (D t) d j e, e) (simp ⊕_laws)
          at (no ne) = rw (only_there c (D t) d j ne) (sym (⊕_zero_r _ ∙ sol.agrees.same d j t hd hj ht ne))

      by : (p t : ℕ) → p < sh.n → t < sh.w → differs sh s p t ≡ chain sh.m sh.n (only c (D t)) p
      by p t hp ht =
          moved x D cell p t hp ht
          ∙ ap (λ (z : ℕ). z ⊕ chain sh.m sh.n (only c (D t)) p) ((obeys_differs sh x).0 sol.obeys p t hp ht)
          ∙ ⊕_zero_l _

  module _ (small : Bytes s) (ex : Explains sh s c) where
    -- the change, and the stripe with it
    E : ℕ → Grid
    E t d j = differs sh s (left sh.n c d) t

    F : ℕ → Grid
    F t d j = byte sh s t d j ⊕ only c (E t) d j

    pair : (d t : ℕ) → d < sh.m → t < sh.w → differs sh s (right sh.n c d) t ≡ differs sh s (left sh.n c d) t
    pair zero t hd ht = ap (λ (q : ℕ). differs sh s q t) (right_zero sh.n c hc ∙ sym (left_zero sh.n c hc))
    pair (suc d) t hd ht = sym (ex.pairs (suc d) t (omega arith) hd ht)

    -- in each chain the change is what the chain differs by
    change : (p t : ℕ) → p < sh.n → t < sh.w → chain sh.m sh.n (only c (E t)) p ≡ differs sh s p t
    unfolding E
    change p t hp ht = only_cases sh.m sh.n c p
        (λ d hd e. ap (chain sh.m sh.n (only c (E t))) e ∙ only_left sh.m sh.n room pos c hc (E t) d hd ∙ sym (ap (λ (q : ℕ). differs sh s q t) e))
        (λ d hd e. ap (chain sh.m sh.n (only c (E t))) e ∙ only_right sh.m sh.n room pos c hc (E t) d hd
        ∙ sym (ap (λ (q : ℕ). differs sh s q t) e ∙ pair d t hd ht))
        (λ far. only_away sh.m sh.n room pos c hc (E t) p hp far ∙ sym (ex.outside p t hp ht far))

    sound : (p t : ℕ) → p < sh.n → t < sh.w → differs sh (made sh F) p t ≡ 0
    unfolding F differs
    sound p t hp ht =
        chain_cong sh.m sh.n (omega (arith, room)) p hp pos (byte sh (made sh F) t) (F t) (λ d j hd hj. byte_made sh F d j t hd hj ht)
        ∙ chain_xor sh.m sh.n (byte sh s t) (only c (E t)) p
        ∙ ⊕_same _ _ (sym (change p t hp ht))

    small_F : (t d j : ℕ) → F t d j < 256
    unfolding E F only differs
    small_F t d j = ⊕_lt _ _ (byte_small sh s small t d j) (picked (eqb j c))
      where
        picked : (b : Bool) → cond b (E t d j) 0 < 256
        picked true = chain_lt sh.m sh.n (byte sh s t) (byte_small sh s small t) (left sh.n c d)
        picked false = omega arith

    explains_mends : Mends sh s c
    unfolding F
    explains_mends = (
      hc,
      made sh F,
      record {
        long = length_made sh F ∙ sym len;
        bytes = λ i hi. subst (λ (z : ℕ). z < 256) (sym (get_or_made sh F i (omega (arith, length_made sh F)))) (small_F _ _ _);
        obeys = (obeys_differs sh (made sh F)).1 sound;
        agrees = record {
          same = λ d j t hd hj ht ne. byte_made sh F d j t hd hj ht ∙ ap (λ (z : ℕ). byte sh s t d j ⊕ z) (only_there c (E t) d j ne) ∙ ⊕_zero_r _;
        };
      },
    )

  pub explains_is_mends : Bytes s → Explains sh s c ↔ Mends sh s c
  explains_is_mends small = (explains_mends small, mends_explains)
