-- Some grid is solved: each side asks the other, height rising each time, until there is nothing left to ask.
-- To cite: solution, with solution_at (its values follow the outer-chain order) and solution_solved.
use mathlib.Core.Path.{◌≡◌, refl, sym, ap, ap₂, ◌∙◌}
use mathlib.Core.Logic.{◌≢◌}
use mathlib.Core.Bool.{Bool, true, false, not, cond}
use Prim.Native.Nat.{ℕ, zero, suc, ◌+◌, ◌-◌, ◌≤◌, ◌<◌}
use native.Mathlib.Omega.{arith}
use lib.Dec.{eqb, ltb}
use borrow.Author.Tests.{eq-eqb, ne_eqb}
use Rattle.xor.specs.Xor.{◌⊕◌}
use Rattle.xor.proofs.XorLaws.{⊕_laws}
use Rattle.rule.specs.Rule.{Grid, chain}
use Rattle.rule.specs.Outer.{without}
use Rattle.rule.proofs.Solve.{Order, Solved, side_column, side_chain, side_chain_lt, side_parts, asked_lt, survivors, cond_cong, order_near, order_apart}

-- a side's symbol of height d, after k calls at most: heights rise and are below m, so m calls are enough
unfoldable pub asking : ℕ → ℕ → ℕ → ℕ → ℕ → ℕ → Grid → Bool → ℕ → ℕ
asking zero m n f g s X side d = 0
asking (suc k) m n f g s X side d =
    chain m n (without f g X) (side_chain n f g side d) ⊕ cond (ltb (d + s) m) (asking k m n f g s X (not side) (d + s)) 0

-- the grid X with the two columns solved
unfoldable pub solution : ℕ → ℕ → ℕ → ℕ → ℕ → Grid → Grid
solution m n f g s X d c = cond (eqb c f) (asking m m n f g s X false d) (cond (eqb c g) (asking m m n f g s X true d) (X d c))

module _ (m n f g s : ℕ) (pos : 1 ≤ m) (room : m + m ≤ n + 1) (o : Order m n f g s) (X : Grid) where
  -- how many calls are allowed does not matter once it is enough
  enough : (j k d : ℕ) → d < m → m ≤ d + j → m ≤ d + k → (side : Bool) → asking j m n f g s X side d ≡ asking k m n f g s X side d
  unfolding asking
  enough zero k d hd p q side = absurd (omega arith)
  enough (suc j) zero d hd p q side = absurd (omega arith)
  enough (suc j) (suc k) d hd p q side =
      ap (λ (z : ℕ). chain m n (without f g X) (side_chain n f g side d) ⊕ z)
      (cond_cong (d + s) m _ _ (λ h.
      enough j k (d + s) h (omega (arith, order_near m n f g s pos room o)) (omega (arith, order_near m n f g s pos room o)) (not side)))

  once : (k : ℕ) → m ≡ suc k → (d : ℕ) → d < m → (side : Bool)
      → asking m m n f g s X side d ≡ chain m n (without f g X) (side_chain n f g side d) ⊕ cond (ltb (d + s) m) (asking m m n f g s X (not side) (d + s)) 0
  unfolding asking
  once k e d hd side =
      ap (λ (z : ℕ). asking z m n f g s X side d) e
      ∙ ap (λ (z : ℕ). chain m n (without f g X) (side_chain n f g side d) ⊕ z)
      (cond_cong (d + s) m _ _ (λ h.
      enough k m (d + s) h (omega (arith, order_near m n f g s pos room o)) (omega arith) (not side)))

  at_side : (side : Bool) → side_column f g side < n → (d : ℕ) → solution m n f g s X d (side_column f g side) ≡ asking m m n f g s X side d
  unfolding solution
  at_side false h d = rw (eq-eqb f f refl)
  at_side true h d = rw (ne_eqb g f (λ e. order_apart m n f g s pos room o g h e refl), eq-eqb g g refl)

  -- the solution's symbols ask as the outer-chain order says
  pub solution_at : (d : ℕ) → d < m → (side : Bool) → side_column f g side < n
      → solution m n f g s X d (side_column f g side)
      ≡ chain m n (without f g X) (side_chain n f g side d) ⊕ cond (ltb (d + s) m) (solution m n f g s X (d + s) (side_column f g (not side))) 0
  solution_at d hd side h =
      at_side side h d
      ∙ once (m - 1) (omega arith) d hd side
      ∙ ap (λ (z : ℕ). chain m n (without f g X) (side_chain n f g side d) ⊕ z)
      (cond_cong (d + s) m _ _ (λ l. sym (at_side (not side) (asked_lt m n f g s pos room o d l (not side)) (d + s))))

  solution_keeps : (d c : ℕ) → d < m → c < n → c ≢ f → c ≢ g → solution m n f g s X d c ≡ X d c
  unfolding solution
  solution_keeps d c hd hc p q = rw (ne_eqb c f p, ne_eqb c g q)

  pub solution_solved : Solved m n f g X (solution m n f g s X)
  solution_solved = record {
    keeps = solution_keeps;
    holds = λ side h d hd.
        side_parts m n f g s pos room o (solution m n f g s X) d hd side h
        ∙ ap₂ ◌⊕◌ (survivors m n f g s pos room o X (solution m n f g s X) solution_keeps (side_chain n f g side d) (side_chain_lt m n f g s pos room o side h d hd))
        (ap (λ (z : ℕ). z ⊕ cond (ltb (d + s) m) (solution m n f g s X (d + s) (side_column f g (not side))) 0) (solution_at d hd side h))
        ∙ gone _ _;
  }
    where
      gone : (l z : ℕ) → l ⊕ (l ⊕ z ⊕ z) ≡ 0
      gone l z = simp ⊕_laws
