-- `fill`: refused, the buffer as it was; else the wanted column solved if it is first or second, and nothing done if it is neither.
use mathlib.Core.Path.{refl}
use lib.ListN.{length}
use Rattle.std.proofs.lemmas.Result.{err_from_is_err_and}
use Rattle.answer.specs.Answers.{number, First}
use Rattle.answer.proofs.OutcomeLaws.{outcome_refused}
use Rattle.staging.specs.Reading.{Read}
use Rattle.filling.specs.Fill.{fill_table}
use Rattle.filling.proofs.FillLaws.{FillGood, fill_done, fill_passed}
use Rattle.staging.proofs.ReadingLaws.{read_here}
use Rattle.filling.proofs.ReadFilled.{read_good, read_fills, read_small, read_fillable, read_filled, read_survives}
use Rattle.filling.proofs.filling.fill.Goals as goal
use Rattle.filling.proofs.filling.fill.Goals.{After-read-x, In_ok-accept}

-- past the `?` no row of the table applies
passed : (c : In_ok-accept)
    → let a = c.args in First (fill_table a.shape a.stripe.now a.lost a.wanted (length a.answer.now)) 0
passed c = fill_passed _ _ _ _ _ _ c.accept.ensures c.in_ok-accept.was

-- what is read, and the call, of the shape that is read
here : (c : After-read-x)
    → let a = c.args in let x = c.read-x.result in
    Read x.shape a.lost x × FillGood x.shape a.stripe.now a.lost a.wanted (length a.answer.now)
here c = let e = c.read-x.ensures in (read_here _ _ _ e, read_good _ _ _ e _ _ _ (fill_done _ _ _ _ _ (fill_passed _ _ _ _ _ _ c.accept.ensures c.in_ok-accept.was)))

pub returns-in_err-accept : goal.returns-in_err-accept
returns-in_err-accept c =
    let p = err_from_is_err_and c.from_residual.result c.from_residual.ensures.1 in
    rw (p.1, p.2) (outcome_refused _ _ _ c.in_err-accept.ensures)

pub read-x-requires : goal.read-x-requires
read-x-requires c = let g = fill_done _ _ _ _ _ (passed c) in (g.shape, g.columns, g.apart)

pub narrow-requires : goal.narrow-requires
narrow-requires c =
    let (rd, o) = here (goal.at.narrow-requires c).After-read-x in
    let z = read_small _ _ rd _ _ _ o in
    (c.in-Some.ensures.0, z.0, z.1)

pub fill_column-requires : goal.fill_column-requires
fill_column-requires c =
    let (rd, o) = here (goal.at.fill_column-requires c).After-read-x in
    read_fillable _ _ rd _ _ _ o _ c.in-Some.ensures.0 c.in-Some.ensures.1 _ c.narrow.ensures

pub returns-in-Some : goal.returns-in-Some
unfolding number
returns-in-Some c =
    let (rd, o) = here (goal.at.returns-in-Some c).After-read-x in
    let f = c.fill_column.ensures in record {
      answer = passed (goal.at.returns-in-Some c).In_ok-accept;
      refused = λ z. absurd (z refl);
      done = λ z.
          read_fills _ _ _ c.read-x.ensures _ _ _ _
          (read_filled _ _ rd _ _ _ o _ c.in-Some.ensures.0 c.in-Some.ensures.1 _ c.narrow.ensures _ f.0 f.1);
    }

pub returns-in_default : goal.returns-in_default
unfolding number
returns-in_default c =
    let (rd, o) = here (goal.at.returns-in_default c).After-read-x in
    let n = c.in_default.ensures in record {
      answer = passed (goal.at.returns-in_default c).In_ok-accept;
      refused = λ z. absurd (z refl);
      done = λ z. read_fills _ _ _ c.read-x.ensures _ _ _ _ (read_survives _ _ rd _ _ _ o n.0 n.1);
    }
