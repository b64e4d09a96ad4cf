use mathlib.Core.Path.{◌≡◌, ◌∙◌, ap}
use mathlib.Core.Logic.{inl, inr}
use Prim.Native.Nat.{◌≤◌}
use native.Mathlib.Omega.{arith}
use native.Mathlib.Decide.{dec_le}
use Rattle.shape.specs.declared.Shape.{Shape}
use Rattle.answer.specs.Answers.{Answer}
use Rattle.std.specs.Prelude.{Err}
use Rattle.answer.specs.declared.Refusal.TheVariants.{BadRows, BadColumns}
use Rattle.shape.specs.Good.{Outside, rows, columns}
use Rattle.answer.specs.Answers.{number, refusal_number, First}
use Rattle.shape.specs.Refusals.{shape_table}
use Rattle.shape.proofs.Asked.{done_good}
use Rattle.words.proofs.WordsLaws.{refused}
use Rattle.chains.proofs.draw.Goals as goal

-- `draw`: a shape that is not refused is good; where its rows are refused, m is outside of its range; where its columns are, n is, and m is not.
-- the first row applies
rows_out : (sh : Shape) (a : Answer) → First (shape_table sh) (number a) → a ≡ (Err BadRows) → Outside rows sh.m
unfolding number refusal_number shape_table
rows_out sh a h e = at (rw e at h)
  where
    at : First (shape_table sh) 1 → Outside rows sh.m
    at (inl z) = z.0
    at (inr (_, inl z)) = absurd (omega (arith, z.1))
    at (inr (_, inr (_, inl z))) = absurd (omega (arith, z.1))
    at (inr (_, inr (_, inr z))) = absurd (omega (arith, z.1))

-- the second row applies, and the first does not
columns_out : (sh : Shape) (a : Answer) → First (shape_table sh) (number a) → a ≡ (Err BadColumns) → (2 ≤ sh.m) × Outside (columns sh.m) sh.n
unfolding number refusal_number shape_table
columns_out sh a h e = at (rw e at h) (dec_le 2 sh.m)
  where
    at : First (shape_table sh) 2 → Dec (2 ≤ sh.m) → (2 ≤ sh.m) × Outside (columns sh.m) sh.n
    at (inl z) d = absurd (omega (arith, z.1))
    at (inr z) (no l) = absurd (z.0 (inl (omega arith)))
    at (inr (_, inl z)) (yes l) = (l, z.0)
    at (inr (_, inr (_, inl z))) (yes l) = absurd (omega (arith, z.1))
    at (inr (_, inr (_, inr z))) (yes l) = absurd (omega (arith, z.1))

pub chains-requires : goal.chains-requires
chains-requires c = done_good _ _ c.accept.ensures c.in-Ok.is

pub refuse-requires : goal.refuse-requires
refuse-requires c =
    refused _ _ _ _ _ c.number.ensures c.unwrap_or-m.ensures
    (rows_out _ _ c.accept.ensures (c.in-Err-BadRows.is ∙ ap Err c.in-Err-BadRows.field-0-is)) (omega arith)

pub overflow_sub-m : goal.overflow_sub-m
overflow_sub-m c = omega (arith, columns_out _ _ c.accept.ensures (c.in-Err-BadColumns.is ∙ ap Err c.in-Err-BadColumns.field-0-is))

pub refuse-requires-in-Err-BadColumns : goal.refuse-requires-in-Err-BadColumns
refuse-requires-in-Err-BadColumns c =
    refused _ _ _ _ _ c.number-2.ensures c.unwrap_or-n.ensures
    (columns_out _ _ c.accept.ensures (c.in-Err-BadColumns.is ∙ ap Err c.in-Err-BadColumns.field-0-is)).1 (omega arith)
