-- Laws of agreement: which chains are used, and what it is to compare a chain that is not.
-- To cite: patched_first, patched_second, patched_else; same_walk, same_distance; uses?, uses_first, uses_second, uses_near; asked_pos, agrees_tells, even_holds, holds_even, even_tells.
use mathlib.Core.Path.{◌≡◌, refl, sym, ap, ◌∙◌, subst}
use mathlib.Core.Logic.{◌≢◌, Ne-symm, ◌⊎◌, inl, inr, ⊎_elim}
use mathlib.Core.Bool.{Bool, cond}
use mathlib.Core.List.{List}
use Prim.Native.Nat.{ℕ, zero, suc, ◌+◌, ◌≤◌, ◌<◌}
use native.Mathlib.Omega.{arith}
use native.Mathlib.Decide.{dec_lt}
use lib.Dec.{ltb}
use lib.ListN.{get_or}
use borrow.Author.Tests.{eq-eqb, ne_eqb, lt-ltb, le-ltb}
use Rattle.xor.specs.Xor.{◌⊕◌}
use Rattle.xor.specs.Tells.{Tells}
use Rattle.xor.proofs.XorLaws.{⊕_eq, ⊕_same}
use Rattle.shape.specs.declared.Shape.{Shape}
use Rattle.shape.specs.Good.{Good}
use Rattle.shape.specs.Place.{place, byte}
use Rattle.shape.specs.Step.{left, right}
use Rattle.shape.proofs.GoodLaws.{good_m, good_room}
use Rattle.shape.proofs.StepLaws.{reach₂, left_zero, left_reach, left_is, right_zero, right_reach, right_is}
use Rattle.rule.specs.Rule.{chain}
use Rattle.rule.specs.Outer.{walk}
use Rattle.rule.proofs.OrderLaws.{walk_lt, walk_pos, walk_reach}
use Rattle.solving.specs.declared.Gone.{Gone}
use Rattle.summing.specs.declared.Sum.{Sum}
use Rattle.summing.specs.Sums.{summed}
use Rattle.sourcing.specs.Sources.{besides, Sourced}
use Rattle.solving.specs.Outer.{column_of, base_of, spot, chain_of}
use Rattle.matching.specs.Matching.{Level, bytes_at}
use Rattle.standing.specs.Standing.{Even}
use Rattle.agreeing.specs.Agreeing.{patched, Uses, Holds, distance, Patchable}
use Rattle.sourcing.proofs.FlatLaws.{symbol_at}
use Rattle.agreeing.proofs.ChangedLaws.{distance_of, distance_none, distance_near, p_f, p_g, left_f, changed_chain, unchanged_chain}

-- ---- the stripe with its lost columns in place

module _ (g : Gone) (s out : List ℕ) (d t : ℕ) where
  pub patched_first : patched g s out t d g.first ≡ get_or out (spot g 0 d + t) 0
  unfolding patched
  patched_first = rw (eq-eqb g.first g.first refl) refl

  pub patched_second : g.first ≢ g.second → patched g s out t d g.second ≡ get_or out (spot g 1 d + t) 0
  unfolding patched
  patched_second ne = rw (ne_eqb g.second g.first (Ne-symm ne), eq-eqb g.second g.second refl) refl

  pub patched_else : (c : ℕ) → c ≢ g.first → c ≢ g.second → patched g s out t d c ≡ byte g.shape s t d c
  unfolding patched
  patched_else c u v = rw (ne_eqb c g.first u, ne_eqb c g.second v) refl

-- a way of that length is the walk
pub same_walk : (n a b d : ℕ) → a < n → b < n → d < n → (a + d ≡ b) ⊎ (a + d ≡ b + n) → walk n a b ≡ d
same_walk n a b d ha hb hd r =
    let l = walk_lt n a b ha hb in
    reach₂ r (walk_reach n a b ha hb) (λ u v. omega arith) (λ u v. omega (arith, l)) (λ u v. omega arith) (λ u v. omega (arith, l))

pub same_distance : (sh : Shape) (a b d : ℕ) → a < sh.n → b < sh.n → d < sh.n → (a + d ≡ b) ⊎ (a + d ≡ b + sh.n) → distance sh a b ≡ d
same_distance sh a b d ha hb hd r = distance_of sh a b ha hb ∙ same_walk sh.n a b d ha hb hd r

module _ (g : Gone) (good : Good g.shape) (p : ℕ) (hp : p < g.shape.n) where
  -- ---- the chains that are used: first is up from them, or they are up from second

  pub uses_first : distance g.shape p g.first < g.shape.m → Uses g p
  unfolding column_of chain_of
  uses_first h =
      let (z, hf) = distance_near g.shape p g.first h in let e = distance_of g.shape p g.first hp hf in (
        0,
        walk g.shape.n p g.first,
        omega arith,
        hf,
        omega (arith, e),
        sym (left_is g.shape.m g.shape.n g.first p (walk g.shape.n p g.first) (walk g.shape.n p g.first) (good_room g.shape good) hf hp (omega (arith, e)) (omega (arith, e))
            (walk_reach g.shape.n p g.first hp hf)),
      )

  pub uses_second : distance g.shape g.second p < g.shape.m → Uses g p
  unfolding column_of chain_of
  uses_second h =
      let (hg, z) = distance_near g.shape g.second p h in let e = distance_of g.shape g.second p hg hp in (
        1,
        walk g.shape.n g.second p,
        omega arith,
        hg,
        omega (arith, e),
        sym (right_is g.shape.m g.shape.n g.second p (walk g.shape.n g.second p) (walk g.shape.n g.second p) (good_room g.shape good) hg hp (omega (arith, e)) (omega (arith, e))
            (walk_reach g.shape.n g.second p hg hp)),
      )

  pub uses_near : Uses g p → (distance g.shape p g.first < g.shape.m) ⊎ (distance g.shape g.second p < g.shape.m)
  unfolding column_of chain_of
  uses_near (zero, d, hs, hc, hd, e) =
      let k : d < g.shape.n = omega (arith, good_room g.shape good) in
      inl (omega (
        arith,
        same_distance g.shape p g.first d hp hc k (subst (λ (q : ℕ). (q + d ≡ g.first) ⊎ (q + d ≡ g.first + g.shape.n)) (sym e) (left_reach g.shape.n g.first d hc k)),
      ))
  uses_near (suc zero, d, hs, hc, hd, e) =
      let k : d < g.shape.n = omega (arith, good_room g.shape good) in
      inr (omega (
        arith,
        same_distance g.shape g.second p d hc hp k (subst (λ (q : ℕ). (g.second + d ≡ q) ⊎ (g.second + d ≡ q + g.shape.n)) (sym e) (right_reach g.shape.n g.second d hc k)),
      ))
  uses_near (suc (suc i), d, hs, hc, hd, e) = absurd (omega arith)

  pub uses? : Dec (Uses g p)
  uses? = at (dec_lt (distance g.shape p g.first) g.shape.m) (dec_lt (distance g.shape g.second p) g.shape.m)
    where
      at : Dec (distance g.shape p g.first < g.shape.m) → Dec (distance g.shape g.second p < g.shape.m) → Dec (Uses g p)
      at (yes h) k = yes (uses_first h)
      at (no h) (yes k) = yes (uses_second k)
      at (no h) (no k) = no (λ u. ⊎_elim h k (uses_near u))

  -- ---- a chain that is not used

  module _ (free : ¬ Uses g p) where
    pub off_first : g.shape.m ≤ distance g.shape p g.first
    off_first = let no : ¬ (distance g.shape p g.first < g.shape.m) = λ h. free (uses_first h) in omega arith

    pub off_second : g.shape.m ≤ distance g.shape g.second p
    off_second = let no : ¬ (distance g.shape g.second p < g.shape.m) = λ h. free (uses_second h) in omega arith

    -- second is not the chain's own column
    pub asked_pos : 1 ≤ distance g.shape p g.second
    asked_pos = at (dec_lt g.second g.shape.n)
      where
        at : Dec (g.second < g.shape.n) → 1 ≤ distance g.shape p g.second
        at (no h) = omega (arith, distance_none g.shape p g.second (inr (omega arith)), good_m g.shape good)
        at (yes h) =
            let d = distance_of g.shape g.second p h hp in
            let l = walk_lt g.shape.n g.second p h hp in
            let ne : p ≢ g.second = λ e. ⊎_elim (λ u. omega (arith, d, off_second, good_m g.shape good)) (λ u. omega (arith, l)) (walk_reach g.shape.n g.second p h hp) in
            omega (arith, distance_of g.shape p g.second hp h, walk_pos g.shape.n p g.second hp h ne)

    module _ (s out : List ℕ) (ok : Patchable g s out) where
      abbrev h : ℕ
      h = distance g.shape p g.second

      module _ (b : ℕ) (eb : b ≡ cond (ltb h g.shape.m) (spot g 1 h) 0) (list : List ℕ) (x : Sum) (e : ℕ)
          (where_e : ((distance g.shape g.first p < g.shape.m) × (e ≡ distance g.shape g.first p)) ⊎ ((g.shape.m ≤ distance g.shape g.first p) × (e ≡ 0)))
          (from : Sourced g.shape p 1 e 0 h b list x) where
        asked : (t : ℕ) → cond (ltb h g.shape.m) (get_or out (b + t) 0) 0 ≡ cond (ltb h g.shape.m) (patched g s out t h g.second) 0
        asked t = at (dec_lt h g.shape.m)
          where
            at : Dec (h < g.shape.m) → cond (ltb h g.shape.m) (get_or out (b + t) 0) 0 ≡ cond (ltb h g.shape.m) (patched g s out t h g.second) 0
            at (yes l) = rw (eb, lt-ltb h g.shape.m l) (sym (patched_second g s out h t (λ f. ok.unlike (omega (arith, (distance_near g.shape p g.second l).1)) f)))
            at (no l) = rw (le-ltb h g.shape.m (omega arith)) refl

        -- the chain is what is summed, and the symbol that it is compared with
        chain_is : (t : ℕ) → t < g.shape.w
            → chain g.shape.m g.shape.n (patched g s out t) p ≡ summed s out list x t ⊕ patched g s out t e (left g.shape.n p e)
        chain_is t ht =
            changed_chain g.shape good p g.first g.second hp off_first off_second ok.unlike (byte g.shape s t) (patched g s out t)
            (λ d c hd hc u v. patched_else g s out d t c u v) e where_e
            ∙ ap (λ (z : ℕ). z ⊕ patched g s out t e (left g.shape.n p e))
            (ap (λ (z : ℕ). besides g.shape.m g.shape.n (byte g.shape s t) p 1 e 0 h ⊕ z) (sym (asked t)) ∙ sym (from.sum s out t ht))

        level_holds : (u : List ℕ) (at : ℕ) (r : Bool)
            → ((t : ℕ) → t < g.shape.w → patched g s out t e (left g.shape.n p e) ≡ get_or u (at + t) 0)
            → Tells (Level (summed s out list x) (bytes_at u at) 0 g.shape.w) r → Tells (Holds g s out p) r
        level_holds u at r is tells = record {
          yes = λ k t ht. chain_is t ht ∙ ⊕_same _ _ (tells.yes k t (omega arith) ht ∙ sym (is t ht));
          no = λ k. tells.no (λ t lo ht. ⊕_eq _ _ (sym (chain_is t ht) ∙ k t ht) ∙ is t ht);
        }

      -- first's symbol is compared, or else the parity symbol; h is how far second is up from the chain
      module _ (h' b : ℕ) (eh : h' ≡ h) (eb : b ≡ cond (ltb h' g.shape.m) (g.two + place g.shape h' 0 0) 0) (list : List ℕ) (x : Sum) (at : ℕ) (r : Bool) where
        b_is : b ≡ cond (ltb h g.shape.m) (spot g 1 h) 0
        unfolding base_of
        b_is = rw (sym eh) eb

        agrees_first : (d : ℕ) → d ≡ distance g.shape g.first p → d < g.shape.m → Sourced g.shape p 1 d 0 h' b list x
            → at ≡ g.one + place g.shape d 0 0 → Tells (Level (summed s out list x) (bytes_at out at) 0 g.shape.w) r → Tells (Holds g s out p) r
        unfolding base_of
        agrees_first d ed hd from ea tells =
            level_holds b b_is list x d (inl (omega (arith, ed), ed)) (rw (sym eh) from) out at r (λ t ht.
            ap (patched g s out t d) (ap (left g.shape.n p) ed ∙ left_f g.shape good p g.first g.second hp off_first off_second (omega (arith, ed)))
            ∙ patched_first g s out d t ∙ ap (λ (i : ℕ). get_or out (i + t) 0) (sym ea)) tells

        agrees_parity : g.shape.m ≤ distance g.shape g.first p → Sourced g.shape p 1 0 0 h' b list x
            → at ≡ place g.shape 0 p 0 → Tells (Level (summed s out list x) (bytes_at s at) 0 g.shape.w) r → Tells (Holds g s out p) r
        agrees_parity away from ea tells =
            level_holds b b_is list x 0 (inr (away, refl)) (rw (sym eh) from) s at r (λ t ht.
            ap (patched g s out t 0) (left_zero g.shape.n p hp)
            ∙ patched_else g s out 0 t p (p_f g.shape good p g.first g.second hp off_first off_second) (p_g g.shape good p g.first g.second hp off_first off_second)
            ∙ sym (symbol_at g.shape s 0 p t ea)) tells

        -- e is the height of the symbol that is compared, u the slice that it is in
        pub agrees_tells : (d e : ℕ) (u : List ℕ) → d ≡ distance g.shape g.first p → e ≡ cond (ltb d g.shape.m) d 0 → u ≡ cond (ltb d g.shape.m) out s
            → at ≡ cond (ltb d g.shape.m) (g.one + place g.shape d 0 0) (place g.shape 0 p 0)
            → Sourced g.shape p 1 e 0 h' b list x → Tells (Level (summed s out list x) (bytes_at u at) 0 g.shape.w) r → Tells (Holds g s out p) r
        agrees_tells d e u ed ee eu ea from tells = on (dec_lt d g.shape.m)
          where
            on : Dec (d < g.shape.m) → Tells (Holds g s out p) r
            on (yes l) =
                let t = lt-ltb d g.shape.m l in
                let e₁ : e ≡ d = ee ∙ rw t refl in
                let u₁ : u ≡ out = eu ∙ rw t refl in
                agrees_first d ed l (rw e₁ at from) (ea ∙ rw t refl) (rw u₁ at tells)
            on (no l) =
                let t = le-ltb d g.shape.m (omega arith) in
                let e₁ : e ≡ 0 = ee ∙ rw t refl in
                let u₁ : u ≡ s = eu ∙ rw t refl in
                agrees_parity (omega (arith, ed)) (rw e₁ at from) (ea ∙ rw t refl) (rw u₁ at tells)

      as_it_stands : g.shape.m ≤ distance g.shape g.first p → g.shape.m ≤ h → (t : ℕ)
          → chain g.shape.m g.shape.n (patched g s out t) p ≡ chain g.shape.m g.shape.n (byte g.shape s t) p
      as_it_stands away off t =
          unchanged_chain g.shape good p g.first g.second hp off_first off_second ok.unlike (byte g.shape s t) (patched g s out t)
          (λ d c hd hc u v. patched_else g s out d t c u v) away off

      -- neither first nor second is near: the chain holds if it does in the stripe
      pub even_holds : g.shape.m ≤ distance g.shape g.first p → g.shape.m ≤ h → Even g.shape s p 0 g.shape.w → Holds g s out p
      unfolding chain
      even_holds away off even t ht = as_it_stands away off t ∙ ⊕_same _ _ (sym (even t (omega arith) ht))

      pub holds_even : g.shape.m ≤ distance g.shape g.first p → g.shape.m ≤ h → Holds g s out p → Even g.shape s p 0 g.shape.w
      unfolding chain
      holds_even away off holds t lo ht = sym (⊕_eq _ _ (sym (as_it_stands away off t) ∙ holds t ht))

      -- where it is asked of a stretch of one chain
      pub even_tells : (r : Bool) → g.shape.m ≤ distance g.shape g.first p → g.shape.m ≤ h
          → Tells ((i : ℕ) → i < 1 → Even g.shape s (right g.shape.n p i) 0 g.shape.w) r → Tells (Holds g s out p) r
      even_tells r away off tells = record {
        yes = λ k. even_holds away off (subst row (at 0 (omega arith)) (tells.yes k 0 (omega arith)));
        no = λ k. tells.no (λ i hi. subst row (sym (at i hi)) (holds_even away off k));
      }
        where
          row : ℕ → Type 0
          row q = Even g.shape s q 0 g.shape.w

          at : (i : ℕ) → i < 1 → right g.shape.n p i ≡ p
          at i hi = let z : i ≡ 0 = omega arith in ap (right g.shape.n p) z ∙ right_zero g.shape.n p hp
