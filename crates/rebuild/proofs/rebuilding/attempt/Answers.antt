-- `attempt`: the refusals first; past them the call is otherwise good, and the survivors decide.
use mathlib.Core.Path.{refl, subst}
use lib.ListN.{length}
use Rattle.std.proofs.lemmas.Result.{err_from_is_err_and}
use Rattle.answer.specs.Answers.{First}
use Rattle.answer.proofs.AnswersLaws.{number_done, refused}
use Rattle.rebuild.specs.Rebuild.{early_table, OtherwiseGood}
use Rattle.rebuild.proofs.RebuildLaws.{early_good, early_outcome, late_outcome}
use Rattle.rebuild.proofs.rebuilding.attempt.Goals as goal
use Rattle.rebuild.proofs.rebuilding.attempt.Goals.{In_ok-accept}

-- past the `?` nothing refused the call
good : (c : In_ok-accept) → let a = c.args in OtherwiseGood a.shape a.lost a.stripe.now (length a.work.now)
good c =
    let a = c.args in
    early_good a.shape a.lost a.stripe.now (length a.work.now)
    (subst (First (early_table a.shape a.lost a.stripe.now (length a.work.now))) ((number_done _).1 c.in_ok-accept.was) c.accept.ensures)

pub returns-in_err-accept : goal.returns-in_err-accept
returns-in_err-accept c =
    let a = c.args in
    let p = err_from_is_err_and c.from_residual.result c.from_residual.ensures.1 in
    (refl, rw (p.1, p.2) (early_outcome a.shape a.lost a.stripe.now (length a.work.now) _ c.in_err-accept.ensures (refused refl)))

pub table-requires : goal.table-requires
table-requires c = (good (goal.at.table-requires c).In_ok-accept).shape

pub mend-requires : goal.mend-requires
mend-requires c = (good (goal.at.mend-requires c).In_ok-accept, c.table.ensures)

pub returns : goal.returns
returns c =
    let a = c.args in
    let m = c.mend.ensures in
    (m.0, late_outcome a.shape a.lost a.stripe.now (length a.work.now) _ _ (good (goal.at.returns c).In_ok-accept) m.1)
