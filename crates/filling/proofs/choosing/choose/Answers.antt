-- `choose`: refused, the empty part; a lost column, the front of the answer buffer; any other, what `column` hands out.
use mathlib.Core.Path.{refl}
use native.Mathlib.Omega.{arith}
use lib.ListN.{length, length-take}
use Rattle.xor.proofs.TellsLaws.{told_no}
use Rattle.answer.specs.Answers.{First}
use Rattle.handing.proofs.Guards.{guard_stops, guard_passes}
use Rattle.filling.specs.Fill.{fill_table}
use Rattle.filling.proofs.FillLaws.{fill_done, fill_passed}
use Rattle.filling.proofs.HandedBackLaws.{front_part, back_none, back_gone, back_survives}
use Rattle.filling.proofs.choosing.choose.Goals as goal
use Rattle.filling.proofs.choosing.choose.Goals.{Else-is_err}

-- past the guard no row of fill's table applies
passed : (c : Else-is_err)
    → let a = c.args in First (fill_table a.shape a.stripe.now a.lost a.wanted (length a.answer.now)) 0
passed c = fill_passed _ _ _ _ _ _ c.accept.ensures (guard_passes _ _ c.is_err.ensures.value c.if-is_err.false)

pub returns-then-is_err : goal.returns-then-is_err
returns-then-is_err c = back_none _ _ _ _ _ _ _ c.accept.ensures (guard_stops _ _ c.is_err.ensures.value c.if-is_err.true) refl

pub column_length-requires : goal.column_length-requires
column_length-requires c = (fill_done _ _ _ _ _ (passed (goal.at.column_length-requires c).Else-is_err)).shape

pub slice_bounds-result-end-then-is_lost : goal.slice_bounds-result-end-then-is_lost
slice_bounds-result-end-then-is_lost c =
    let buffer = c.args.answer.now in
    let fits = (fill_done _ _ _ _ _ (passed (goal.at.slice_bounds-result-end-then-is_lost c).Else-is_err)).buffer in
    omega (arith, length-take c.column_length.result buffer, c.column_length.ensures.is, fits)

pub returns-then-is_lost : goal.returns-then-is_lost
returns-then-is_lost c =
    back_gone _ _ _ _ _ _ (passed (goal.at.returns-then-is_lost c).Else-is_err) (c.is_lost.ensures.yes c.if-is_lost.true)
    (front_part c.args.shape _ _ c.column_length.ensures.is)
    record { block = refl; start = omega arith }

pub returns : goal.returns
returns c = back_survives _ _ _ _ _ _ (passed (goal.at.returns c).Else-is_err) (told_no c.is_lost.ensures c.if-is_lost.false) c.column.ensures
