-- The rows of a shape's and of a stripe's refusals are decided, so that a call that begins with them has some outcome.
use mathlib.Core.Path.{◌≡◌, refl}
use mathlib.Core.Logic.Dec
use mathlib.Core.List.{List, ◌++◌}
use Prim.Native.Nat.{ℕ}
use native.Mathlib.Decide.{dec_lt, ℕ_discrete}
use lib.ListN.{length}
use Rattle.std.specs.Prelude.{Err}
use Rattle.answer.specs.declared.Refusal.TheVariants.{BadRows, BadColumns, BadSymbol, BadStripe}
use Rattle.answer.specs.Answers.{refusal_number, number, Table}
use Rattle.answer.proofs.OutcomeLaws.{Ready, ready_append, either?}
use Rattle.shape.specs.declared.Shape.{Shape}
use Rattle.shape.specs.Good.{Range, Outside, rows, columns, symbol, most, size, Good}
use Rattle.shape.specs.Refusals.{shape_table, stripe_table}
use Rattle.shape.proofs.GoodLaws.{stripe_done}

outside? : (range : Range) (x : ℕ) → Dec (Outside range x)
outside? range x = either? (dec_lt x range.0) (dec_lt range.1 x)

pub shape_ready : (sh : Shape) → Ready (shape_table sh)
unfolding number refusal_number shape_table
shape_ready sh = (
  Err BadRows,
  refl,
  outside? rows sh.m,
  λ p. (
    Err BadColumns,
    refl,
    outside? (columns sh.m) sh.n,
    λ q.
        (Err BadSymbol, refl, either? (outside? symbol sh.w) (dec_lt most (size sh)), λ r. tt),
  ),
)

pub stripe_ready : (sh : Shape) (s : List ℕ) → Ready (stripe_table sh s)
unfolding number refusal_number stripe_table
stripe_ready sh s =
    ready_append (shape_table sh) _ (shape_ready sh) (λ h. (Err BadStripe, refl, Dec.not (ℕ_discrete (length s) (size sh)), λ p. tt))

-- and the rest of a table behind the stripe's
pub stripe_ready_rest : (sh : Shape) (s : List ℕ) (rest : Table) → (Good sh → length s ≡ size sh → Ready rest) → Ready (stripe_table sh s ++ rest)
stripe_ready_rest sh s rest f =
    ready_append (stripe_table sh s) rest (stripe_ready sh s) (λ h. let z = (stripe_done sh s).1 h in f z.0 z.1)
