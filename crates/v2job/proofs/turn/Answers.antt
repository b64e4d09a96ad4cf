use mathlib.Core.Path.{refl}
use Prim.Native.Nat.{◌+◌, ◌≤◌}
use native.Mathlib.Omega.{arith}
use borrow.Rule.Slice.PartMut.{mid_len}
use Rattle.job.proofs.TakenLaws.{taken_within}
use Rattle.v2job.proofs.WaitingLaws.{shows_collects}
use borrow.Author.Rules.{rules}
use Rattle.v2job.proofs.turn.Goals as goal
use Rattle.v2job.proofs.turn.Goals.{After-step-step}

-- `turn`: the step takes no more than what waits, and the rest still waits.
-- the step takes no more than what waits
took : (c : After-step-step) → let f = c.refill-feed.result in f.start + c.step-step.result.taken ≤ f.end
took c =
    let refilled = c.refill-feed in
    let waits = refilled.ensures.waits in
    omega (arith, waits.from, taken_within c.step-step.ensures, mid_len refilled.result.start refilled.result.end refilled.new.input waits.to)

pub overflow_add-result : goal.overflow_add-result
overflow_add-result c =
    search (rules, took (goal.at.overflow_add-result c).After-step-step, c.refill-feed.ensures.waits.to)

pub returns : goal.returns
returns c =
    let refilled = c.refill-feed in
    let waits = refilled.ensures.waits in
    let shown = c.show-shelf in
    record {
      goes = record {
        waits = record { from = took (goal.at.returns c).After-step-step; to = waits.to; roomy = waits.roomy };
        collects = shows_collects c.step-step.result.line c.args.run.shelf c.args.output.now shown.result shown.new.output shown.ensures c.requires.collects;
      };
      fed = refilled.result;
      refilled = refilled.ensures;
      step = c.step-step.result;
      stepped = c.step-step.ensures;
      state = refl;
      start = refl;
      end = refl;
      more = refl;
      shows = shown.ensures;
      goes_on = refl;
    }
