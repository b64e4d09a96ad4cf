-- What the rule's outer-chain order solves is Solved: the chain without the two lost symbols is the chain of the survivors.
-- To cite: outer_is_solved.
use mathlib.Core.Path.{◌≡◌, refl, sym, ap, ap₂, ◌∙◌}
use mathlib.Core.Logic.{⊎_elim, inl, inr}
use mathlib.Core.Bool.{Bool, true, false, not, cond}
use mathlib.Core.List.{List}
use Prim.Native.Nat.{ℕ, zero, suc, ◌+◌, ◌-◌, ◌≤◌, ◌<◌}
use native.Mathlib.Omega.{arith}
use lib.Dec.{ltb}
use Rattle.xor.specs.Xor.{◌⊕◌}
use Rattle.xor.proofs.XorLaws.{⊕_laws}
use Rattle.shape.specs.Good.{Good}
use Rattle.shape.specs.Place.{byte}
use Rattle.shape.specs.Step.{left, right}
use Rattle.shape.proofs.GoodLaws.{good_m, good_room, good_wide}
use Rattle.shape.proofs.StepLaws.{left_lt, left_reach, right_lt, right_reach, left_is, right_is, further}
use Rattle.rule.specs.declared.Losses.{Losses}
use Rattle.rule.specs.Rule.{Grid, chain}
use Rattle.rule.specs.Losses.{Beyond, Twice}
use Rattle.rule.specs.Outer.{without, Outer}
use Rattle.rule.proofs.Solve.{Order, Pair, side_column, side_chain, side_parts, cond_cong}
use Rattle.rule.proofs.Reading.{reading_order}
use Rattle.rule.proofs.OuterLaws.{first_of, second_of, walk_of, outer_from}
use Rattle.solving.specs.declared.Gone.{Gone}
use Rattle.sourcing.specs.Sources.{beside, besides}
use Rattle.solving.specs.Outer.{column_of, chain_of, Solved}

-- the number of a side: second's is 1
abbrev number : Bool → ℕ
number side = cond side 1 0

module _ (m n f g s : ℕ) (pos : 1 ≤ m) (room : m + m ≤ n + 1) (o : Order m n f g s) where
  -- a side's chain has the side's column at the symbol's height
  beside_own : (side : Bool) → side_column f g side < n → (d : ℕ) → d < m → beside (number side) n (side_chain n f g side d) d ≡ side_column f g side
  unfolding beside
  beside_own false hc d hd = right_is m n (left n f d) f d d room (left_lt n f d hc (omega arith)) hc hd hd (left_reach n f d hc (omega arith))
  beside_own true hc d hd = left_is m n (right n g d) g d d room (right_lt n g d hc (omega arith)) hc hd hd (right_reach n g d hc (omega arith))

  -- and the other side's column at the height that is asked for
  beside_asked : (side : Bool) (d : ℕ) → d + s < m → beside (number side) n (side_chain n f g side d) (d + s) ≡ side_column f g (not side)
  unfolding beside
  beside_asked side d h = ⊎_elim (λ z. absurd (omega (arith, z.1))) (at side) o
    where
      at : (side : Bool) → Pair m n f g s → beside (number side) n (side_chain n f g side d) (d + s) ≡ side_column f g (not side)
      at false p =
          let q : left n f d < n = left_lt n f d p.first_lt (omega arith) in
          right_is m n (left n f d) g (d + s) (d + s) room q p.second_lt h h
          (further n (left n f d) d f s g q (omega arith) (left_reach n f d p.first_lt (omega arith)) p.walk)
      at true p =
          let q : right n g d < n = right_lt n g d p.second_lt (omega arith) in
          left_is m n (right n g d) f (d + s) (d + s) room q p.first_lt h h
          (⊎_elim (λ u. inl (omega arith)) (λ u. inr (omega arith))
          (further n f s g d (right n g d) p.first_lt (omega arith) p.walk (right_reach n g d p.second_lt (omega arith))))

  -- so what is left of the chain is the survivors'
  besides_survivors : (X : Grid) (side : Bool) → side_column f g side < n → (d : ℕ) → d < m
      → besides m n X (side_chain n f g side d) (number side) d (number side) (d + s) ≡ chain m n (without f g X) (side_chain n f g side d)
  unfolding besides
  besides_survivors X side hc d hd =
      ap₂ ◌⊕◌ (ap₂ ◌⊕◌ (side_parts m n f g s pos room o X d hd side hc) (ap (X d) (beside_own side hc d hd)))
      (cond_cong (d + s) m _ _ (λ h. ap (X (d + s)) (beside_asked side d h)))
      ∙ gone _ _ _
    where
      gone : (l y z : ℕ) → l ⊕ (y ⊕ z) ⊕ y ⊕ z ≡ l
      gone l y z = simp ⊕_laws

-- a stripe that the outer-chain order solves, read at the lost columns
module _ (g : Gone) (good : Good g.shape) (lost : Losses) (fit : ¬ Beyond g.shape.n lost) (apart : ¬ Twice lost) (e₁ : g.first ≡ first_of g.shape lost)
    (e₂ : g.second ≡ second_of g.shape lost) (e₃ : g.walk ≡ walk_of g.shape lost) (s x : List ℕ) (o : Outer g.shape lost s x) where
  abbrev F : ℕ
  F = first_of g.shape lost

  abbrev G : ℕ
  G = second_of g.shape lost

  -- byte t of the symbol of height d in a side's column
  abbrev pub solved_byte : ℕ → ℕ → ℕ → ℕ
  solved_byte side d t = byte g.shape x t d (column_of g side)

  column_is : (side : Bool) → column_of g (number side) ≡ side_column F G side
  unfolding column_of
  column_is false = e₁
  column_is true = e₂

  chain_is : (side : Bool) (d : ℕ) → chain_of g (number side) d ≡ side_chain g.shape.n F G side d
  unfolding chain_of
  chain_is false d = ap (λ (c : ℕ). left g.shape.n c d) e₁
  chain_is true d = ap (λ (c : ℕ). right g.shape.n c d) e₂

  other_is : (side : Bool) → 1 - number side ≡ number (not side)
  other_is false = refl
  other_is true = refl

  at_side : (side : Bool) (d t : ℕ) → column_of g (number side) < g.shape.n → d < g.shape.m → t < g.shape.w
      → solved_byte (number side) d t
      ≡ besides g.shape.m g.shape.n (byte g.shape s t) (chain_of g (number side) d) (number side) d (number side) (d + g.walk)
      ⊕ cond (ltb (d + g.walk) g.shape.m) (solved_byte (1 - number side) (d + g.walk) t) 0
  at_side side d t hc hd ht =
      ap (byte g.shape x t d) (column_is side)
      ∙ outer_from g.shape good lost fit apart s x o d t hd ht side (omega (arith, column_is side))
      ∙ ap₂ ◌⊕◌
      (sym (besides_survivors g.shape.m g.shape.n F G (walk_of g.shape lost) (good_m g.shape good) (good_room g.shape good)
      (reading_order g.shape.m g.shape.n (good_wide g.shape good) lost fit apart) (byte g.shape s t) side (omega (arith, column_is side)) d hd)
      ∙ ap₂ (λ (q h : ℕ). besides g.shape.m g.shape.n (byte g.shape s t) q (number side) d (number side) (d + h)) (sym (chain_is side d)) (sym e₃))
      (ap₂ (λ (h c : ℕ). cond (ltb (d + h) g.shape.m) (byte g.shape x t (d + h) c) 0) (sym e₃) (sym (ap (column_of g) (other_is side) ∙ column_is (not side))))

  pub outer_is_solved : Solved g s solved_byte
  outer_is_solved = record { each = at }
    where
      at : (side d t : ℕ) → side ≤ 1 → column_of g side < g.shape.n → d < g.shape.m → t < g.shape.w
          → solved_byte side d t
          ≡ besides g.shape.m g.shape.n (byte g.shape s t) (chain_of g side d) side d side (d + g.walk)
          ⊕ cond (ltb (d + g.walk) g.shape.m) (solved_byte (1 - side) (d + g.walk) t) 0
      at zero d t hs hc hd ht = at_side false d t hc hd ht
      at (suc zero) d t hs hc hd ht = at_side true d t hc hd ht
      at (suc (suc i)) d t hs hc hd ht = absurd (omega arith)
