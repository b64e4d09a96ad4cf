-- Lost columns solved in a grid. None, one and two lost columns are one reading: first, second and the walk between them, where "no column" is n,
-- which no column is, and the walk is then m, too far to ask. A side is false for first and true for second.
-- To cite: Order, Solved, solve, solved_one.
use mathlib.Core.Path.{◌≡◌, sym, ap, ap₂, ◌∙◌}
use mathlib.Core.Logic.{◌≢◌, ◌⊎◌, inl, inr, ⊎_elim}
use mathlib.Core.Bool.{Bool, true, false, not, cond}
use Prim.Native.Nat.{ℕ, zero, suc, ◌+◌, ◌-◌, ◌*◌, ◌≤◌, ◌<◌}
use native.Mathlib.Omega.{arith}
use native.Mathlib.Decide.{dec_lt, ℕ_discrete}
use lib.Dec.{ltb}
use borrow.Author.Tests.{eq-eqb, ne_eqb, lt-ltb, le-ltb}
use Rattle.xor.specs.Xor.{◌⊕◌}
use Rattle.xor.proofs.XorLaws.{⊕_laws, ⊕_comm, ⊕_left_comm, ⊕_eq}
use Rattle.shape.specs.Step.{left, right}
use Rattle.shape.proofs.StepLaws.{Reach, left_lt, left_reach, right_lt, right_reach, far, further, back}
use Rattle.rule.specs.Rule.{Grid, chain}
use Rattle.rule.specs.Outer.{without}
use Rattle.rule.proofs.ChainLaws.{chain_xor, chain_cong, chain_none}
use Rattle.rule.proofs.Only.{only, only_there, only_none, hit_left, hit_right}

-- two columns, second being s to the right of first; this alone needs 4m-3 ≤ n
pub record Pair (m n f g s : ℕ) : Type 0 where
  pub wide : 4 * m ≤ n + 3
  pub first_lt : f < n
  pub second_lt : g < n
  pub near : 1 ≤ s
  pub short : 2 * s ≤ n
  pub walk : Reach n f s g

-- no second, or a pair
abbrev pub Order : ℕ → ℕ → ℕ → ℕ → ℕ → Type 0
Order m n f g s = ((g ≡ n) × (s ≡ m)) ⊎ Pair m n f g s

-- the column of a side, and the chain from which its symbol of height d is solved
abbrev pub side_column : ℕ → ℕ → Bool → ℕ
side_column f g side = cond side g f

abbrev pub side_chain : ℕ → ℕ → ℕ → Bool → ℕ → ℕ
side_chain n f g side d = cond side (right n g d) (left n f d)

-- Y is X solved: the survivors as they stood, and every chain of a lost column's side holding
pub record Solved (m n f g : ℕ) (X Y : Grid) : Type 0 where
  pub keeps : (d c : ℕ) → d < m → c < n → c ≢ f → c ≢ g → Y d c ≡ X d c
  pub holds : (side : Bool) → side_column f g side < n → (d : ℕ) → d < m → chain m n Y (side_chain n f g side d) ≡ 0

module _ (m n f g s : ℕ) (pos : 1 ≤ m) (room : m + m ≤ n + 1) (o : Order m n f g s) where
  pub order_near : 1 ≤ s
  order_near = ⊎_elim (λ z. omega (arith, z.1)) (λ p. p.near) o

  pub side_chain_lt : (side : Bool) → side_column f g side < n → (d : ℕ) → d < m → side_chain n f g side d < n
  side_chain_lt false h d hd = left_lt n f d h (omega arith)
  side_chain_lt true h d hd = right_lt n g d h (omega arith)

  -- no column is both
  pub order_apart : (j : ℕ) → j < n → j ≡ f → j ≡ g → ⊥
  order_apart j hj p q = ⊎_elim (λ z. omega (arith, z.0)) (λ z. ⊎_elim (λ u. omega (arith, z.near)) (λ u. omega (arith, z.short, z.near)) z.walk) o

  module _ (Y : Grid) where
    -- a chain in three parts: the survivors, first's and second's symbols
    parts : (q : ℕ) → q < n → chain m n Y q ≡ chain m n (without f g Y) q ⊕ (chain m n (only f Y) q ⊕ chain m n (only g Y) q)
    unfolding without only
    parts q hq =
        chain_cong m n (omega arith) q hq pos Y (λ d j. without f g Y d j ⊕ (only f Y d j ⊕ only g Y d j)) (λ d j hd hj. at d j hj (ℕ_discrete j f) (ℕ_discrete j g))
        ∙ chain_xor m n (without f g Y) (λ d j. only f Y d j ⊕ only g Y d j) q
        ∙ ap (λ (z : ℕ). chain m n (without f g Y) q ⊕ z) (chain_xor m n (only f Y) (only g Y) q)
      where
        at : (d j : ℕ) → j < n → Dec (j ≡ f) → Dec (j ≡ g) → Y d j ≡ without f g Y d j ⊕ (only f Y d j ⊕ only g Y d j)
        at d j hj (yes p) (yes q) = absurd (order_apart j hj p q)
        at d j hj (yes p) (no q) = rw (eq-eqb j f p, ne_eqb j g q) (simp ⊕_laws)
        at d j hj (no p) (yes q) = rw (ne_eqb j f p, eq-eqb j g q) (simp ⊕_laws)
        at d j hj (no p) (no q) = rw (ne_eqb j f p, ne_eqb j g q) (simp ⊕_laws)

    module _ (d : ℕ) (hd : d < m) where
      -- what first's chain has of second: its symbol of height d + s, where that is below m
      second_seen : f < n → chain m n (only g Y) (left n f d) ≡ cond (ltb (d + s) m) (Y (d + s) g) 0
      second_seen hf = ⊎_elim (λ z. beyond z.0 z.1) seen o
        where
          q : left n f d < n
          q = left_lt n f d hf (omega arith)

          beyond : g ≡ n → s ≡ m → chain m n (only g Y) (left n f d) ≡ cond (ltb (d + s) m) (Y (d + s) g) 0
          beyond e k =
              rw (le-ltb (d + s) m (omega arith)) (chain_none m n (omega arith) (left n f d) q pos (only g Y) (λ h j hh hj. only_there g Y h j (omega arith)))

          seen : Pair m n f g s → chain m n (only g Y) (left n f d) ≡ cond (ltb (d + s) m) (Y (d + s) g) 0
          seen p = at (dec_lt (d + s) m)
            where
              on : Reach n (left n f d) (d + s) g
              on = further n (left n f d) d f s g q (omega (arith, p.short, p.wide)) (left_reach n f d hf (omega arith)) p.walk

              at : Dec (d + s < m) → chain m n (only g Y) (left n f d) ≡ cond (ltb (d + s) m) (Y (d + s) g) 0
              at (yes h) = rw (lt-ltb (d + s) m h) (hit_right m n room pos Y (left n f d) g q p.second_lt (d + s) h on)
              at (no h) =
                  rw (le-ltb (d + s) m (omega arith))
                  (only_none m n room pos Y (left n f d) g q (far m n (left n f d) g (d + s) q on (omega arith) (omega (arith, p.short, p.wide))))

      -- and second's of first
      first_seen : g < n → chain m n (only f Y) (right n g d) ≡ cond (ltb (d + s) m) (Y (d + s) f) 0
      first_seen hg = ⊎_elim (λ z. absurd (omega (arith, z.0))) seen o
        where
          q : right n g d < n
          q = right_lt n g d hg (omega arith)

          seen : Pair m n f g s → chain m n (only f Y) (right n g d) ≡ cond (ltb (d + s) m) (Y (d + s) f) 0
          seen p = at (dec_lt (d + s) m)
            where
              short : d + s + m ≤ n
              short = omega (arith, p.short, p.wide)

              on : Reach n f (d + s) (right n g d)
              on = ⊎_elim (λ u. inl (omega arith)) (λ u. inr (omega arith))
                  (further n f s g d (right n g d) p.first_lt (omega (arith, short)) p.walk (right_reach n g d hg (omega arith)))

              at : Dec (d + s < m) → chain m n (only f Y) (right n g d) ≡ cond (ltb (d + s) m) (Y (d + s) f) 0
              at (yes h) = rw (lt-ltb (d + s) m h) (hit_left m n room pos Y (right n g d) f q p.first_lt (d + s) h on)
              at (no h) =
                  rw (le-ltb (d + s) m (omega arith))
                  (only_none m n room pos Y (right n g d) f q
                  (far m n (right n g d) f (n - (d + s)) q (back n f (d + s) (right n g d) (omega (arith, short)) on) (omega (arith, short)) (omega (arith, short))))

      -- the chain of a side: survivors, the side's symbol, and the other's where it is asked for
      pub side_parts : (side : Bool) → side_column f g side < n
          → chain m n Y (side_chain n f g side d)
          ≡ chain m n (without f g Y) (side_chain n f g side d) ⊕ (Y d (side_column f g side) ⊕ cond (ltb (d + s) m) (Y (d + s) (side_column f g (not side))) 0)
      side_parts false hf =
          parts (left n f d) (left_lt n f d hf (omega arith))
          ∙ ap (λ (z : ℕ). chain m n (without f g Y) (left n f d) ⊕ z)
          (ap₂ ◌⊕◌ (hit_right m n room pos Y (left n f d) f (left_lt n f d hf (omega arith)) hf d hd (left_reach n f d hf (omega arith))) (second_seen hf))
      side_parts true hg =
          parts (right n g d) (right_lt n g d hg (omega arith))
          ∙ ap (λ (z : ℕ). chain m n (without f g Y) (right n g d) ⊕ z)
          (⊕_comm _ _
          ∙ ap₂ ◌⊕◌ (hit_left m n room pos Y (right n g d) g (right_lt n g d hg (omega arith)) hg d hd (right_reach n g d hg (omega arith))) (first_seen hg))

  -- ---- a grid that is solved

  -- where a symbol is asked for, the other column is one
  pub asked_lt : (d : ℕ) → d + s < m → (side : Bool) → side_column f g side < n
  asked_lt d h false = ⊎_elim (λ z. absurd (omega (arith, z.1))) (λ p. p.first_lt) o
  asked_lt d h true = ⊎_elim (λ z. absurd (omega (arith, z.1))) (λ p. p.second_lt) o

  pub survivors : (X Y : Grid) → ((d c : ℕ) → d < m → c < n → c ≢ f → c ≢ g → Y d c ≡ X d c)
      → (q : ℕ) → q < n → chain m n (without f g Y) q ≡ chain m n (without f g X) q
  unfolding without
  survivors X Y keeps q hq =
      chain_cong m n (omega arith) q hq pos (without f g Y) (without f g X) (λ d j hd hj. at d j (ℕ_discrete j f) (ℕ_discrete j g) (keeps d j hd hj))
    where
      at : (d j : ℕ) → Dec (j ≡ f) → Dec (j ≡ g) → (j ≢ f → j ≢ g → Y d j ≡ X d j) → without f g Y d j ≡ without f g X d j
      at d j (yes p) q h = rw (eq-eqb j f p)
      at d j (no p) (yes q) h = rw (ne_eqb j f p, eq-eqb j g q)
      at d j (no p) (no q) h = rw (ne_eqb j f p, ne_eqb j g q) (h p q)

  -- each symbol of a lost column is its chain's survivors XOR what is asked for
  pub solve : (X Y : Grid) → Solved m n f g X Y → (d : ℕ) → d < m → (side : Bool) → side_column f g side < n
      → Y d (side_column f g side)
      ≡ chain m n (without f g X) (side_chain n f g side d) ⊕ cond (ltb (d + s) m) (Y (d + s) (side_column f g (not side))) 0
  solve X Y sol d hd side hs =
      alone _ _ _ (sym (side_parts Y d hd side hs) ∙ sol.holds side hs d hd)
      ∙ ap (λ (z : ℕ). z ⊕ cond (ltb (d + s) m) (Y (d + s) (side_column f g (not side))) 0)
      (survivors X Y sol.keeps (side_chain n f g side d) (side_chain_lt side hs d hd))
    where
      alone : (l y z : ℕ) → l ⊕ (y ⊕ z) ≡ 0 → y ≡ l ⊕ z
      alone l y z e = ⊕_eq y (l ⊕ z) (⊕_left_comm y l z ∙ e)

-- equal where it is asked for
pub cond_cong : (e m x y : ℕ) → (e < m → x ≡ y) → cond (ltb e m) x 0 ≡ cond (ltb e m) y 0
cond_cong e m x y h = at (dec_lt e m)
  where
    at : Dec (e < m) → cond (ltb e m) x 0 ≡ cond (ltb e m) y 0
    at (yes l) = rw (lt-ltb e m l) (h l)
    at (no l) = rw (le-ltb e m (omega arith))

-- so one grid is solved: height after height from the top
module _ (m n f g s : ℕ) (pos : 1 ≤ m) (room : m + m ≤ n + 1) (o : Order m n f g s) (X Y Z : Grid) (p : Solved m n f g X Y) (q : Solved m n f g X Z) where
  same : (k d : ℕ) → d < m → m ≤ d + k → (side : Bool) → side_column f g side < n → Y d (side_column f g side) ≡ Z d (side_column f g side)
  same zero d hd high side hs = absurd (omega arith)
  same (suc k) d hd high side hs =
      solve m n f g s pos room o X Y p d hd side hs
      ∙ ap (λ (z : ℕ). chain m n (without f g X) (side_chain n f g side d) ⊕ z)
      (cond_cong (d + s) m _ _ (λ h.
      same k (d + s) h (omega (arith, order_near m n f g s pos room o)) (not side) (asked_lt m n f g s pos room o d h (not side))))
      ∙ sym (solve m n f g s pos room o X Z q d hd side hs)

  pub solved_one : (d c : ℕ) → d < m → c < n → Y d c ≡ Z d c
  solved_one d c hd hc = at (ℕ_discrete c f) (ℕ_discrete c g)
    where
      at : Dec (c ≡ f) → Dec (c ≡ g) → Y d c ≡ Z d c
      at (yes e) v = ap (Y d) e ∙ same m d hd (omega arith) false (omega arith) ∙ sym (ap (Z d) e)
      at (no u) (yes e) = ap (Y d) e ∙ same m d hd (omega arith) true (omega arith) ∙ sym (ap (Z d) e)
      at (no u) (no v) = p.keeps d c hd hc u v ∙ sym (q.keeps d c hd hc u v)
