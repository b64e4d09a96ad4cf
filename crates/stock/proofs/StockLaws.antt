-- Laws of the stock shapes: each is good, by one test computed over the table; one answer, and some.
use mathlib.Core.Path.{◌≡◌, refl, sym, ap, ◌∙◌}
use mathlib.Core.Logic.{inl, inr}
use mathlib.Core.Bool.{Bool, true, ◌&&◌, and-eq-true_iff}
use mathlib.Core.List.{List, [], ◌∷◌}
use Prim.Native.Nat.{ℕ, zero, suc, ◌≤◌, ◌<◌}
use native.Mathlib.Omega.{arith}
use native.Mathlib.Decide.{dec_lt}
use lib.ListN.{length, get_or}
use lib.Dec.{leb}
use borrow.Author.Tests.{leb-true}
use Rattle.shape.specs.declared.Shape.{Shape}
use denote.Ref.{Bor}
use Rattle.std.specs.Prelude.{Option, None, Some, Result, Ok, Err}
use Rattle.std.specs.Option.{option_copied, ok_or}
use Rattle.std.specs.Slice.{IsItemAt}
use Rattle.answer.specs.declared.Refusal.{Refusal}
use Rattle.answer.specs.declared.Refusal.TheVariants.{NoSuchStock}
use Rattle.shape.specs.Good.{Range, Within, rows, columns, symbol, most, size, Good}
use Rattle.answer.specs.Answers.{Answer, refusal_number, number, Rises}
use Rattle.answer.specs.Outcome.{Outcome}
use Rattle.stock.specs.Stock.{stock, stock_table, zero_shape, shape_given, Stock}
use Rattle.answer.proofs.OutcomeLaws.{outcome_one, outcome_refused, call_some}
use Rattle.stock.proofs.ResultLaws.{result_apart}

-- ---- good: the test, over the table, and what it tells of each entry

within? : Range → ℕ → Bool
within? range x = leb range.0 x && leb x range.1

good? : Shape → Bool
good? sh = within? rows sh.m && within? (columns sh.m) sh.n && within? symbol sh.w && leb (size sh) most

all? : List Shape → Bool
all? [] = true
all? (sh ∷ rest) = good? sh && all? rest

within_by : (range : Range) (x : ℕ) → within? range x ≡ true → Within range x
unfolding within?
within_by range x e = let z = (and-eq-true_iff _ _).0 e in (leb-true _ _ z.0, leb-true _ _ z.1)

good_by : (sh : Shape) → good? sh ≡ true → Good sh
unfolding good?
good_by sh e =
    let a = (and-eq-true_iff _ (leb (size sh) most)).0 e in
    let b = (and-eq-true_iff _ (within? symbol sh.w)).0 a.0 in
    let c = (and-eq-true_iff (within? rows sh.m) _).0 b.0 in record {
      m_fits = within_by rows sh.m c.0;
      n_fits = within_by (columns sh.m) sh.n c.1;
      w_fits = within_by symbol sh.w b.1;
      all_fits = leb-true _ _ a.1;
    }

each_by : (l : List Shape) → all? l ≡ true → (i : ℕ) → i < length l → Good (get_or l i zero_shape)
unfolding all?
each_by [] e i h = absurd (omega arith)
each_by (sh ∷ rest) e zero h = good_by sh ((and-eq-true_iff _ _).0 e).0
each_by (sh ∷ rest) e (suc i) h = each_by rest ((and-eq-true_iff (good? sh) _).0 e).1 i (omega arith)

pub stock_good : (i : ℕ) → i ≤ 9 → Good (get_or stock i zero_shape)
unfolding stock all? good? within? size
stock_good i h = each_by stock refl i (omega arith)

-- ---- one, and some

pub stock_rises : (i : ℕ) → Rises 0 (stock_table i)
unfolding stock_table
stock_rises i = omega arith

pub stock_one : (i : ℕ) (a b : Result Shape Refusal) → Stock i a → Stock i b → a ≡ b
stock_one j a b p q =
    let (e, f) = outcome_one (λ h x y u v. u ∙ sym v) (number a) (number b) (shape_given a) (shape_given b) p q in
    result_apart a b e (λ x y u v. sym (ap shape_given u) ∙ f ∙ ap shape_given v)

pub stock_some : (i : ℕ) → (r : Result Shape Refusal) × Stock i r
unfolding stock_table number refusal_number
stock_some i = let (a, x, h) = call_some {T = stock_table i} zero_shape Gives ((Err NoSuchStock), refl, dec_lt 9 i, λ p. tt) (λ h. (_, refl)) in at a x h
  where
    Gives : Shape → Type 0
    Gives x = x ≡ get_or stock i zero_shape

    at : (a : Answer) (x : Shape) → Outcome (stock_table i) zero_shape Gives (number a) x → (r : Result Shape Refusal) × Stock i r
    at (Ok u) x h = (Ok x, h)
    at (Err r) x h = (Err r, outcome_refused (Unit {0}) Shape r h.answer)

-- what is looked up in the table is the shape that is given
pub stock_looked : (i : ℕ) (r : Option (Bor Shape)) → IsItemAt stock i r → Stock i (ok_or (option_copied r) NoSuchStock)
unfolding number refusal_number stock_table stock
stock_looked i None h = record { answer = inl (omega (arith, h.3), refl); refused = λ ne. refl; done = λ z. absurd (omega arith) }
stock_looked i (Some x) h = record { answer = inr ((λ l. omega (arith, h.3.0)), refl); refused = λ ne. absurd (ne refl); done = λ z. h.4 (omega arith) zero_shape }
