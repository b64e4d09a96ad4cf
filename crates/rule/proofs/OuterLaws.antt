-- Laws of Outer, by the grid of each byte: one stripe is solved in the outer-chain order, some stripe is, and how.
-- To cite: outer_one, outer_some, outer_from, outer_from_one, outer_either.
use mathlib.Core.Path.{◌≡◌, refl, sym, ap, ◌∙◌}
use mathlib.Core.Logic.{◌≢◌, inl, inr, ⊎_elim, ⊎_swap}
use mathlib.Core.Bool.{Bool, true, false, not, cond}
use mathlib.Core.List.{List}
use Prim.Native.Nat.{ℕ, ◌+◌, ◌<◌}
use native.Mathlib.Omega.{arith}
use lib.ListN.{length}
use lib.Dec.{eqb, ltb}
use borrow.Author.Tests.{ne_eqb, le-ltb}
use Rattle.xor.specs.Xor.{◌⊕◌}
use Rattle.xor.proofs.XorLaws.{⊕_zero_r}
use Rattle.shape.specs.declared.Shape.{Shape}
use Rattle.shape.specs.Good.{Good, size}
use Rattle.shape.specs.Place.{byte}
use Rattle.shape.specs.Step.{left}
use Rattle.shape.proofs.StepLaws.{left_lt}
use Rattle.shape.proofs.PlaceLaws.{byte_ext}
use Rattle.shape.proofs.Made.{made, length_made, byte_made}
use Rattle.shape.proofs.GoodLaws.{good_m, good_w, good_wide, good_room}
use Rattle.rule.specs.declared.Losses.{Losses}
use Rattle.rule.specs.declared.Losses.TheVariants.{One, Two}
use Rattle.rule.specs.Rule.{Grid, chain, differs}
use Rattle.rule.specs.Losses.{Beyond, Twice}
use Rattle.rule.specs.Outer.{reading, without, Outer}
use Rattle.rule.proofs.ChainLaws.{chain_cong}
use Rattle.rule.proofs.OrderLaws.{first_either, second_either}
use Rattle.rule.proofs.Solve.{Order, Solved, side_column, side_chain, side_chain_lt, solve, solved_one}
use Rattle.rule.proofs.Solution.{solution, solution_solved}
use Rattle.rule.proofs.Reading.{Sided, reading_order, reading_lost, reading_used}

-- the one reading of the losses of a stripe
abbrev pub first_of : Shape → Losses → ℕ
first_of sh lost = (reading sh.m sh.n lost).0

abbrev pub second_of : Shape → Losses → ℕ
second_of sh lost = (reading sh.m sh.n lost).1

abbrev pub walk_of : Shape → Losses → ℕ
walk_of sh lost = (reading sh.m sh.n lost).2

module _ (sh : Shape) (good : Good sh) (lost : Losses) (fit : ¬ Beyond sh.n lost) (apart : ¬ Twice lost) where
  in_order : Order sh.m sh.n (first_of sh lost) (second_of sh lost) (walk_of sh lost)
  in_order = reading_order sh.m sh.n (good_wide sh good) lost fit apart

  -- ---- a stripe is solved where each byte's grid is

  pub outer_solved : (s x : List ℕ) → Outer sh lost s x → (t : ℕ) → t < sh.w → Solved sh.m sh.n (first_of sh lost) (second_of sh lost) (byte sh s t) (byte sh x t)
  unfolding differs
  outer_solved s x o t ht = record {
    keeps = λ d c hd hc p q. o.agrees.same d c t hd hc ht (λ l. ⊎_elim p q ((reading_lost sh.m sh.n (good_wide sh good) lost fit apart c hc).0 l));
    holds = λ side h d hd. o.holds _ t ((reading_used sh.m sh.n (good_wide sh good) lost fit apart _).1 (side, d, h, hd, refl)) ht;
  }

  solved_outer : (s x : List ℕ) → length x ≡ length s → ((t : ℕ) → t < sh.w → Solved sh.m sh.n (first_of sh lost) (second_of sh lost) (byte sh s t) (byte sh x t)) → Outer sh lost s x
  unfolding differs
  solved_outer s x long h = record {
    long = long;
    agrees = record {
      same = λ d c t hd hc ht l.
          let z = (reading_lost sh.m sh.n (good_wide sh good) lost fit apart c hc).1 in
          (h t ht).keeps d c hd hc (λ e. l (z (inl e))) (λ e. l (z (inr e)));
    };
    holds = λ p t u ht. on p t ht ((reading_used sh.m sh.n (good_wide sh good) lost fit apart p).0 u);
  }
    where
      on : (p t : ℕ) → t < sh.w → Sided sh.m sh.n (first_of sh lost) (second_of sh lost) p → chain sh.m sh.n (byte sh x t) p ≡ 0
      on p t ht (side, d, hs, hd, e) = ap (chain sh.m sh.n (byte sh x t)) e ∙ (h t ht).holds side hs d hd

  -- ---- one, and some

  pub outer_one : (s x y : List ℕ) → length s ≡ size sh → Outer sh lost s x → Outer sh lost s y → x ≡ y
  outer_one s x y len p q = byte_ext sh (good_m sh good) (good_w sh good) x y (p.long ∙ len) (q.long ∙ len) (λ d c t hd hc ht.
      solved_one sh.m sh.n (first_of sh lost) (second_of sh lost) (walk_of sh lost) (good_m sh good) (good_room sh good) in_order (byte sh s t) (byte sh x t) (byte sh y t)
      (outer_solved s x p t ht) (outer_solved s y q t ht) d c hd hc)

  pub outer_some : (s : List ℕ) → length s ≡ size sh → (x : List ℕ) × Outer sh lost s x
  outer_some s len = (made sh F, solved_outer s (made sh F) (length_made sh F ∙ sym len) is)
    where
      F : ℕ → Grid
      F t = solution sh.m sh.n (first_of sh lost) (second_of sh lost) (walk_of sh lost) (byte sh s t)

      is : (t : ℕ) → t < sh.w → Solved sh.m sh.n (first_of sh lost) (second_of sh lost) (byte sh s t) (byte sh (made sh F) t)
      is t ht =
          let z = solution_solved sh.m sh.n (first_of sh lost) (second_of sh lost) (walk_of sh lost) (good_m sh good) (good_room sh good) in_order (byte sh s t) in record {
            keeps = λ d c hd hc p q. byte_made sh F d c t hd hc ht ∙ z.keeps d c hd hc p q;
            holds = λ side h d hd.
                chain_cong sh.m sh.n (omega (arith, good_room sh good, good_m sh good)) (side_chain sh.n (first_of sh lost) (second_of sh lost) side d)
                (side_chain_lt sh.m sh.n (first_of sh lost) (second_of sh lost) (walk_of sh lost) (good_m sh good) (good_room sh good) in_order side h d hd) (good_m sh good)
                (byte sh (made sh F) t) (F t) (λ e c he hc. byte_made sh F e c t he hc ht)
                ∙ z.holds side h d hd;
          }

  -- ---- how: a side's symbol from its chain's survivors and what it asks for

  pub outer_from : (s x : List ℕ) → Outer sh lost s x → (d t : ℕ) → d < sh.m → t < sh.w → (side : Bool) → side_column (first_of sh lost) (second_of sh lost) side < sh.n
      → byte sh x t d (side_column (first_of sh lost) (second_of sh lost) side)
      ≡ chain sh.m sh.n (without (first_of sh lost) (second_of sh lost) (byte sh s t)) (side_chain sh.n (first_of sh lost) (second_of sh lost) side d) ⊕ cond (ltb (d + walk_of sh lost) sh.m) (byte sh x t (d + walk_of sh lost) (side_column (first_of sh lost) (second_of sh lost) (not side))) 0
  outer_from s x o d t hd ht side h =
      solve sh.m sh.n (first_of sh lost) (second_of sh lost) (walk_of sh lost) (good_m sh good) (good_room sh good) in_order (byte sh s t) (byte sh x t) (outer_solved s x o t ht) d hd side h

-- one lost column: there is nothing to ask for
pub outer_from_one : (sh : Shape) → Good sh → (s x : List ℕ) (c d t : ℕ) → c < sh.n → d < sh.m → t < sh.w → Outer sh (One c) s x
    → byte sh x t d c ≡ chain sh.m sh.n (without c c (byte sh s t)) (left sh.n c d)
unfolding without
outer_from_one sh good s x c d t hc hd ht o =
    outer_from sh good (One c) (λ z. omega arith) (λ z. z) s x o d t hd ht false hc
    ∙ rw (le-ltb (d + sh.m) sh.m (omega arith)) (⊕_zero_r _)
    ∙ chain_cong sh.m sh.n (omega (arith, good_room sh good, good_m sh good)) (left sh.n c d)
    (left_lt sh.n c d hc (omega (arith, good_room sh good, good_m sh good))) (good_m sh good)
    (without c sh.n (byte sh s t)) (without c c (byte sh s t)) (λ e j he hj. rw (ne_eqb j sh.n (λ z. omega arith)) (at (eqb j c) _))
  where
    at : (b : Bool) (y : ℕ) → cond b 0 y ≡ cond b 0 (cond b 0 y)
    at true y = refl
    at false y = refl

-- the order of the names makes no difference
pub outer_either : (sh : Shape) (a b : ℕ) → a ≢ b → (s x : List ℕ) → Outer sh (Two a b) s x → Outer sh (Two b a) s x
outer_either sh a b ne s x o = record {
  long = o.long;
  agrees = record { same = λ d c t hd hc ht l. o.agrees.same d c t hd hc ht (λ z. l (⊎_swap z)) };
  holds = λ p t u ht. o.holds p t (rw (first_either sh.n a b ne, second_either sh.n a b ne) u) ht;
}
