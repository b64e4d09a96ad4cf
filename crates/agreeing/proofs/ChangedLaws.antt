-- A grid changed in two columns, seen by a chain that has the first of them on its left and the second on its right, or not at all.
-- To cite: distance_of, distance_none, distance_near, changed_chain, unchanged_chain.
use mathlib.Core.Path.{◌≡◌, refl, sym, ap, ap₂, ◌∙◌}
use mathlib.Core.Logic.{◌≢◌, ◌⊎◌, inl, inr, ⊎_elim}
use mathlib.Core.Bool.{cond}
use Prim.Native.Nat.{ℕ, ◌≤◌, ◌<◌}
use native.Mathlib.Omega.{arith}
use native.Mathlib.Decide.{dec_lt, ℕ_discrete}
use lib.Dec.{ltb}
use borrow.Author.Tests.{eq-eqb, ne_eqb, lt-ltb, le-ltb}
use Rattle.xor.specs.Xor.{◌⊕◌}
use Rattle.xor.proofs.XorLaws.{⊕_laws}
use Rattle.shape.specs.declared.Shape.{Shape}
use Rattle.shape.specs.Good.{Good}
use Rattle.shape.specs.Step.{left, right}
use Rattle.shape.proofs.GoodLaws.{good_m, good_room}
use Rattle.shape.proofs.StepLaws.{left_zero, left_is, right_is, far}
use Rattle.rule.specs.Rule.{Grid, chain}
use Rattle.rule.specs.Outer.{walk}
use Rattle.rule.proofs.ChainLaws.{chain_xor, chain_cong, chain_none}
use Rattle.rule.proofs.OrderLaws.{walk_lt, walk_reach, walk_round}
use Rattle.rule.proofs.Only.{only, only_there, only_none, hit_left, hit_right}
use Rattle.sourcing.specs.Sources.{beside, besides}
use Rattle.agreeing.specs.Agreeing.{distance}

-- ---- distances

module _ (sh : Shape) (a b : ℕ) where
  pub distance_of : a < sh.n → b < sh.n → distance sh a b ≡ walk sh.n a b
  unfolding distance
  distance_of ha hb = rw (lt-ltb a sh.n ha, lt-ltb b sh.n hb) refl

  pub distance_none : (sh.n ≤ a) ⊎ (sh.n ≤ b) → distance sh a b ≡ sh.m
  unfolding distance
  distance_none (inl h) = rw (le-ltb a sh.n h) refl
  distance_none (inr h) = at (dec_lt a sh.n)
    where
      at : Dec (a < sh.n) → cond (ltb a sh.n) (cond (ltb b sh.n) (walk sh.n a b) sh.m) sh.m ≡ sh.m
      at (yes l) = rw (lt-ltb a sh.n l, le-ltb b sh.n h) refl
      at (no l) = rw (le-ltb a sh.n (omega arith)) refl

  -- a column that is near is a column
  pub distance_near : distance sh a b < sh.m → (a < sh.n) × (b < sh.n)
  distance_near h = at (dec_lt a sh.n) (dec_lt b sh.n)
    where
      at : Dec (a < sh.n) → Dec (b < sh.n) → (a < sh.n) × (b < sh.n)
      at (yes u) (yes v) = (u, v)
      at (no u) v = absurd (omega (arith, distance_none (inl (omega arith))))
      at (yes u) (no v) = absurd (omega (arith, distance_none (inr (omega arith))))

-- ---- what chain p sees of the columns f and g, if it is near neither f on its right nor g on its left

module _ (sh : Shape) (good : Good sh) (p f g : ℕ) (hp : p < sh.n) (off_f : sh.m ≤ distance sh p f) (off_g : sh.m ≤ distance sh g p) where
  pub p_f : p ≢ f
  p_f e = let d = distance_of sh p f hp (omega arith) in
      let l = walk_lt sh.n p f hp (omega arith) in
      ⊎_elim (λ u. omega (arith, d, off_f, good_m sh good)) (λ u. omega (arith, l)) (walk_reach sh.n p f hp (omega arith))

  pub p_g : p ≢ g
  p_g e = let d = distance_of sh g p (omega arith) hp in
      let l = walk_lt sh.n g p (omega arith) hp in
      ⊎_elim (λ u. omega (arith, d, off_g, good_m sh good)) (λ u. omega (arith, l)) (walk_reach sh.n g p (omega arith) hp)

  -- where it is near them, that is f's column on its left and g's on its right
  pub left_f : distance sh f p < sh.m → left sh.n p (distance sh f p) ≡ f
  left_f h = let (hf, z) = distance_near sh f p h in let e = distance_of sh f p hf hp in
      rw e (left_is sh.m sh.n p f (walk sh.n f p) (walk sh.n f p) (good_room sh good) hp hf (omega (arith, e)) (omega (arith, e)) (walk_reach sh.n f p hf hp))

  right_g : distance sh p g < sh.m → right sh.n p (distance sh p g) ≡ g
  right_g h = let (z, hg) = distance_near sh p g h in let e = distance_of sh p g hp hg in
      rw e (right_is sh.m sh.n p g (walk sh.n p g) (walk sh.n p g) (good_room sh good) hp hg (omega (arith, e)) (omega (arith, e)) (walk_reach sh.n p g hp hg))

  module _ (D : Grid) where
    none : (c : ℕ) → sh.n ≤ c → chain sh.m sh.n (only c D) p ≡ 0
    none c h = chain_none sh.m sh.n (omega (arith, good_room sh good, good_m sh good)) p hp (good_m sh good) (only c D) (λ d j hd hj. only_there c D d j (λ e. omega arith))

    seen_f : chain sh.m sh.n (only f D) p ≡ cond (ltb (distance sh f p) sh.m) (D (distance sh f p) f) 0
    seen_f = at (dec_lt f sh.n)
      where
        at : Dec (f < sh.n) → chain sh.m sh.n (only f D) p ≡ cond (ltb (distance sh f p) sh.m) (D (distance sh f p) f) 0
        at (no h) = rw (le-ltb (distance sh f p) sh.m (omega (arith, distance_none sh f p (inl (omega arith))))) (none f (omega arith))
        at (yes hf) = on (dec_lt (distance sh f p) sh.m)
          where
            on : Dec (distance sh f p < sh.m) → chain sh.m sh.n (only f D) p ≡ cond (ltb (distance sh f p) sh.m) (D (distance sh f p) f) 0
            on (yes h) = let e = distance_of sh f p hf hp in
                rw (lt-ltb (distance sh f p) sh.m h, e)
                (hit_left sh.m sh.n (good_room sh good) (good_m sh good) D p f hp hf (walk sh.n f p) (omega (arith, e)) (walk_reach sh.n f p hf hp))
            on (no h) =
                rw (le-ltb (distance sh f p) sh.m (omega arith))
                (only_none sh.m sh.n (good_room sh good) (good_m sh good) D p f hp
                (far sh.m sh.n p f (walk sh.n p f) hp (walk_reach sh.n p f hp hf) (omega (arith, distance_of sh p f hp hf))
                (omega (arith, distance_of sh f p hf hp, walk_round sh.n p f hp hf p_f))))

    seen_g : chain sh.m sh.n (only g D) p ≡ cond (ltb (distance sh p g) sh.m) (D (distance sh p g) g) 0
    seen_g = at (dec_lt g sh.n)
      where
        at : Dec (g < sh.n) → chain sh.m sh.n (only g D) p ≡ cond (ltb (distance sh p g) sh.m) (D (distance sh p g) g) 0
        at (no h) = rw (le-ltb (distance sh p g) sh.m (omega (arith, distance_none sh p g (inr (omega arith))))) (none g (omega arith))
        at (yes hg) = on (dec_lt (distance sh p g) sh.m)
          where
            on : Dec (distance sh p g < sh.m) → chain sh.m sh.n (only g D) p ≡ cond (ltb (distance sh p g) sh.m) (D (distance sh p g) g) 0
            on (yes h) = let e = distance_of sh p g hp hg in
                rw (lt-ltb (distance sh p g) sh.m h, e)
                (hit_right sh.m sh.n (good_room sh good) (good_m sh good) D p g hp hg (walk sh.n p g) (omega (arith, e)) (walk_reach sh.n p g hp hg))
            on (no h) =
                rw (le-ltb (distance sh p g) sh.m (omega arith))
                (only_none sh.m sh.n (good_room sh good) (good_m sh good) D p g hp
                (far sh.m sh.n p g (walk sh.n p g) hp (walk_reach sh.n p g hp hg) (omega (arith, distance_of sh p g hp hg))
                (omega (arith, distance_of sh g p hg hp, walk_round sh.n p g hp hg p_g))))

  -- Y is X but for the columns f and g
  module _ (unlike : f < sh.n → f ≢ g) (X Y : Grid) (same : (d c : ℕ) → d < sh.m → c < sh.n → c ≢ f → c ≢ g → Y d c ≡ X d c) where
    abbrev D : Grid
    D d c = Y d c ⊕ X d c

    change : chain sh.m sh.n Y p
        ≡ chain sh.m sh.n X p
        ⊕ (cond (ltb (distance sh f p) sh.m) (D (distance sh f p) f) 0 ⊕ cond (ltb (distance sh p g) sh.m) (D (distance sh p g) g) 0)
    unfolding only
    change =
        chain_cong sh.m sh.n (omega (arith, good_room sh good, good_m sh good)) p hp (good_m sh good) Y (λ d j. X d j ⊕ (only f D d j ⊕ only g D d j))
        (λ d j hd hj. at d j hj (ℕ_discrete j f) (ℕ_discrete j g) (same d j hd hj))
        ∙ chain_xor sh.m sh.n X (λ d j. only f D d j ⊕ only g D d j) p
        ∙ ap (λ (z : ℕ). chain sh.m sh.n X p ⊕ z) (chain_xor sh.m sh.n (only f D) (only g D) p ∙ ap₂ ◌⊕◌ (seen_f D) (seen_g D))
      where
        at : (d j : ℕ) → j < sh.n → Dec (j ≡ f) → Dec (j ≡ g) → (j ≢ f → j ≢ g → Y d j ≡ X d j) → Y d j ≡ X d j ⊕ (only f D d j ⊕ only g D d j)
        at d j hj (yes u) (yes v) h = absurd (unlike (omega arith) (sym u ∙ v))
        at d j hj (yes u) (no v) h = rw (eq-eqb j f u, ne_eqb j g v) (simp ⊕_laws)
        at d j hj (no u) (yes v) h = rw (ne_eqb j f u, eq-eqb j g v) (simp ⊕_laws)
        at d j hj (no u) (no v) h = rw (ne_eqb j f u, ne_eqb j g v, h u v) (simp ⊕_laws)

    -- a chain that sees neither
    pub unchanged_chain : sh.m ≤ distance sh f p → sh.m ≤ distance sh p g → chain sh.m sh.n Y p ≡ chain sh.m sh.n X p
    unchanged_chain u v = change ∙ rw (le-ltb (distance sh f p) sh.m u, le-ltb (distance sh p g) sh.m v) (simp ⊕_laws)

    -- so, without the symbol of Y on the left at height e, which is f's or the parity symbol, and the one of g, chain p is the same of both
    pub changed_chain : (e : ℕ) → ((distance sh f p < sh.m) × (e ≡ distance sh f p)) ⊎ ((sh.m ≤ distance sh f p) × (e ≡ 0))
        → chain sh.m sh.n Y p
        ≡ (besides sh.m sh.n X p 1 e 0 (distance sh p g) ⊕ cond (ltb (distance sh p g) sh.m) (Y (distance sh p g) g) 0) ⊕ Y e (left sh.n p e)
    unfolding besides beside
    changed_chain e where_e = change ∙ at where_e (dec_lt (distance sh p g) sh.m)
      where
        two : (l x y z u : ℕ) → l ⊕ (y ⊕ x ⊕ (u ⊕ z)) ≡ l ⊕ x ⊕ z ⊕ u ⊕ y
        two l x y z u = simp ⊕_laws

        first : (l x y : ℕ) → l ⊕ (y ⊕ x ⊕ 0) ≡ l ⊕ x ⊕ 0 ⊕ 0 ⊕ y
        first l x y = simp ⊕_laws

        second : (l x z u : ℕ) → l ⊕ (0 ⊕ (u ⊕ z)) ≡ l ⊕ x ⊕ z ⊕ u ⊕ x
        second l x z u = simp ⊕_laws

        none_seen : (l x : ℕ) → l ⊕ (0 ⊕ 0) ≡ l ⊕ x ⊕ 0 ⊕ 0 ⊕ x
        none_seen l x = simp ⊕_laws

        at : ((distance sh f p < sh.m) × (e ≡ distance sh f p)) ⊎ ((sh.m ≤ distance sh f p) × (e ≡ 0)) → Dec (distance sh p g < sh.m)
            → chain sh.m sh.n X p
            ⊕ (cond (ltb (distance sh f p) sh.m) (D (distance sh f p) f) 0 ⊕ cond (ltb (distance sh p g) sh.m) (D (distance sh p g) g) 0)
            ≡ (besides sh.m sh.n X p 1 e 0 (distance sh p g) ⊕ cond (ltb (distance sh p g) sh.m) (Y (distance sh p g) g) 0) ⊕ Y e (left sh.n p e)
        at (inl (near, ee)) (yes l) = rw (ee, lt-ltb (distance sh f p) sh.m near, lt-ltb (distance sh p g) sh.m l, left_f near, right_g l) (two _ _ _ _ _)
        at (inl (near, ee)) (no l) = rw (ee, lt-ltb (distance sh f p) sh.m near, le-ltb (distance sh p g) sh.m (omega arith), left_f near) (first _ _ _)
        at (inr (away, ee)) (yes l) =
            rw (ee, le-ltb (distance sh f p) sh.m away, lt-ltb (distance sh p g) sh.m l, left_zero sh.n p hp, right_g l, same 0 p (good_m sh good) hp p_f p_g) (second _ _ _ _)
        at (inr (away, ee)) (no l) =
            rw (ee, le-ltb (distance sh f p) sh.m away, le-ltb (distance sh p g) sh.m (omega arith), left_zero sh.n p hp, same 0 p (good_m sh good) hp p_f p_g) (none_seen _ _)
