-- Laws of the losses read: which of two columns is first, and what is staged can be staged.
use mathlib.Core.Path.{◌≡◌, refl, sym, ap₂, ◌∙◌, subst}
use mathlib.Core.Logic.{◌≢◌, Ne-symm, ⊎_elim}
use mathlib.Core.Bool.{Bool, true, false, cond}
use mathlib.Core.List.{List}
use Prim.Native.Nat.{ℕ, zero, suc, ◌*◌, ◌≤◌, ◌<◌}
use native.Mathlib.Omega.{arith}
use native.Mathlib.Decide.{dec_lt}
use lib.Dec.{ltb}
use lib.ListN.{length}
use borrow.Author.Tests.{eq-eqb, ne_eqb, lt-ltb, le-ltb}
use Rattle.xor.specs.Tells.{Tells}
use Rattle.xor.proofs.TellsLaws.{tells_true, tells_false}
use Rattle.shape.specs.declared.Shape.{Shape}
use Rattle.shape.specs.Good.{Good, size}
use Rattle.shape.specs.Place.{column_length, byte}
use Rattle.shape.proofs.GoodLaws.{good_m, good_room, good_wide}
use Rattle.rule.specs.declared.Losses.{Losses}
use Rattle.rule.specs.declared.Losses.TheVariants.{Two}
use Rattle.rule.specs.Losses.{Beyond, Twice}
use Rattle.rule.specs.Outer.{walk, first, second, reading, Outer}
use Rattle.rule.proofs.OrderLaws.{first_in}
use Rattle.rule.proofs.Reading.{reading_order}
use Rattle.rule.proofs.Solve.{Order, side_column, order_near, order_apart, asked_lt}
use Rattle.solving.specs.declared.Gone.{Gone}
use Rattle.solving.specs.Outer.{column_of, Solved}
use Rattle.solving.proofs.SolvedLaws.{outer_is_solved}
use Rattle.staging.specs.Reading.{Read, Led}
use Rattle.staging.specs.Staging.{Stageable, Staged}

module _ (n a b : ℕ) (ne : a ≢ b) where
  pub first_nearer : walk n a b < walk n b a → Tells (first n a b ≡ a) true
  unfolding first
  first_nearer h = tells_true (rw (lt-ltb (walk n a b) (walk n b a) h) refl)

  pub first_farther : walk n b a < walk n a b → Tells (first n a b ≡ a) false
  unfolding first
  first_farther h = tells_false (rw (le-ltb (walk n a b) (walk n b a) (omega arith), lt-ltb (walk n b a) (walk n a b) h) (Ne-symm ne))

  pub first_level : walk n b a ≡ walk n a b → Tells (first n a b ≡ a) (ltb a b)
  unfolding first
  first_level e = rw (le-ltb (walk n a b) (walk n b a) (omega arith), le-ltb (walk n b a) (walk n a b) (omega arith)) (at (dec_lt a b))
    where
      at : Dec (a < b) → Tells (cond (ltb a b) a b ≡ a) (ltb a b)
      at (yes h) = rw (lt-ltb a b h) (tells_true refl)
      at (no h) = rw (le-ltb a b (omega arith)) (tells_false (Ne-symm ne))

  -- the other is second
  second_b : first n a b ≡ a → second n a b ≡ b
  unfolding second
  second_b e = rw (e, eq-eqb a a refl) refl

  second_a : first n a b ≢ a → second n a b ≡ a
  unfolding second
  second_a e = rw (ne_eqb (first n a b) a e) refl

-- the reading of two, in either order
module _ (sh : Shape) (a b w t : ℕ) (ne : a ≢ b) (et : t ≡ column_length sh) where
  pub read_first : first sh.n a b ≡ a → w ≡ walk sh.n a b → Read sh (Two a b) (record { shape = sh; first = a; second = b; walk = w; one = 0; two = t })
  read_first e ew = record {
    shape_is = refl;
    first_is = sym e;
    second_is = sym (second_b sh.n a b ne e);
    walk_is = ew ∙ ap₂ (walk sh.n) (sym e) (sym (second_b sh.n a b ne e));
    one_is = refl;
    two_is = et;
  }

  pub read_second : first sh.n a b ≢ a → w ≡ walk sh.n b a → Read sh (Two a b) (record { shape = sh; first = b; second = a; walk = w; one = 0; two = t })
  read_second e ew =
      let f : first sh.n a b ≡ b = ⊎_elim (λ z. absurd (e z)) (λ z. z) (first_in sh.n a b ne) in
      record {
        shape_is = refl;
        first_is = sym f;
        second_is = sym (second_a sh.n a b ne e);
        walk_is = ew ∙ ap₂ (walk sh.n) (sym f) (sym (second_a sh.n a b ne e));
        one_is = refl;
        two_is = et;
      }

-- ---- what is read can be staged, and staged it is what the rule solves

-- the reading as one of the shape that it holds
pub read_here : (sh : Shape) (lost : Losses) (g : Gone) → Read sh lost g → Read g.shape lost g
read_here sh lost g r = subst (λ (z : Shape). Read z lost g) (sym r.shape_is) r

module _ (g : Gone) (lost : Losses) (r : Read g.shape lost g) (good : Good g.shape) (fit : ¬ Beyond g.shape.n lost) (apart : ¬ Twice lost) where
  abbrev F : ℕ
  F = (reading g.shape.m g.shape.n lost).0

  abbrev G : ℕ
  G = (reading g.shape.m g.shape.n lost).1

  abbrev S : ℕ
  S = (reading g.shape.m g.shape.n lost).2

  in_order : Order g.shape.m g.shape.n F G S
  in_order = reading_order g.shape.m g.shape.n (good_wide g.shape good) lost fit apart

  -- the walk leads somewhere, and not around; where something is asked for there are two
  pub read_near : 1 ≤ g.walk
  read_near = omega (arith, r.walk_is, order_near g.shape.m g.shape.n F G S (good_m g.shape good) (good_room g.shape good) in_order)

  pub read_short : g.walk ≤ 64
  read_short = ⊎_elim (λ z. omega (arith, r.walk_is, z.1, good.m_fits.1)) (λ p. omega (arith, r.walk_is, p.short, good.n_fits.1)) in_order

  pub read_two : g.walk < g.shape.m → (side : ℕ) → column_of g side < g.shape.n
  unfolding column_of
  read_two h = at
    where
      asked : (side : Bool) → side_column F G side < g.shape.n
      asked = asked_lt g.shape.m g.shape.n F G S (good_m g.shape good) (good_room g.shape good) in_order 0 (omega (arith, r.walk_is))

      at : (side : ℕ) → column_of g side < g.shape.n
      at zero = omega (arith, r.first_is, asked false)
      at (suc side) = omega (arith, r.second_is, asked true)

  pub read_stageable : (s out : List ℕ) → length s ≡ size g.shape → 2 * column_length g.shape ≤ length out → Stageable g s out
  read_stageable s out whole room = record {
    good = good;
    whole = whole;
    near = read_near;
    short = read_short;
    two = read_two;
    one_is = r.one_is;
    two_is = r.two_is;
    room = room;
  }

  -- second is lost only where first is, and no column is both
  pub read_led : Led g
  read_led h = ⊎_elim (λ z. absurd (omega (arith, r.second_is, z.0))) (λ p. omega (arith, r.first_is, p.first_lt)) in_order

  pub read_apart : g.first < g.shape.n → g.first ≢ g.second
  read_apart h e =
      order_apart g.shape.m g.shape.n F G S (good_m g.shape good) (good_room g.shape good) in_order
      g.first h r.first_is (e ∙ r.second_is)

  -- the symbols of the lost columns of the stripe x, which the outer-chain order solves, are in the buffer
  pub read_staged : (s x : List ℕ) → Outer g.shape lost s x → (out : List ℕ) → ((v : ℕ → ℕ → ℕ → ℕ) → Solved g s v → Staged g v out)
      → Staged g (λ side d t. byte g.shape x t d (column_of g side)) out
  read_staged s x o out h = h _ (outer_is_solved g good lost fit apart r.first_is r.second_is r.walk_is s x o)
