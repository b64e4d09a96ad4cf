-- `small_write`: each return is the first row of its table that applies; past them all `replace` does what is asked.
use mathlib.Core.Path.{◌≡◌, refl}
use mathlib.Core.Logic.{inl, inr}
use Prim.Native.Nat.{◌-◌}
use native.Mathlib.Omega.{arith}
use lib.ListN.{length}
use Rattle.std.proofs.lemmas.Result.{err_from_is_err_and}
use Rattle.shape.specs.Good.{Good, size}
use Rattle.answer.specs.Answers.{refusal_number, number}
use Rattle.answer.proofs.AnswersLaws.{refused}
use Rattle.shape.proofs.GoodLaws.{good_m}
use Rattle.writing.specs.Write.{write_table}
use Rattle.shape.proofs.Asked.{done_stripe}
use Rattle.storing.proofs.StruckOutcome.{struck_stop, struck_6, struck_8, struck_done}
use Rattle.writing.proofs.small_write.Goals as goal
use Rattle.writing.proofs.small_write.Goals.{In_ok-accept_stripe, then-shape-column-via-then-shape-column, then-shape-column-via-else-shape-column+then-shape-row}

-- past the `?` the shape is good and the stripe is of its length
whole : (c : In_ok-accept_stripe) → let a = c.args in Good a.shape × (length a.stripe.now ≡ size a.shape)
whole c = done_stripe _ _ _ c.accept_stripe.ensures c.in_ok-accept_stripe.was

pub returns-in_err-accept_stripe : goal.returns-in_err-accept_stripe
unfolding write_table
returns-in_err-accept_stripe c =
    let a = c.args in
    let p = err_from_is_err_and c.from_residual.result c.from_residual.ensures.1 in
    rw (p.1, p.2) (struck_stop a.shape a.stripe.now (a.shape.m - 1) a.column a.row a.symbol.now _ _ c.in_err-accept_stripe.ensures (refused refl))

pub overflow_sub-shape : goal.overflow_sub-shape
overflow_sub-shape c = omega (arith, good_m _ (whole (goal.at.overflow_sub-shape c).In_ok-accept_stripe).0)

pub returns-then-shape-column : goal.returns-then-shape-column
unfolding number refusal_number write_table
returns-then-shape-column c =
    let a = c.args in
    let (good, len) = whole (goal.at.returns-then-shape-column c).In_ok-accept_stripe in
    struck_6 a.shape a.stripe.now (a.shape.m - 1) a.column a.row a.symbol.now _ good len (elim c.then-shape-column.branch [
      | then-shape-column-via-then-shape-column w ↦ inl w.if-shape-column.true
      | then-shape-column-via-else-shape-column+then-shape-row w ↦ inr w.if-shape-row.true
    ])

pub returns-then-symbol-shape : goal.returns-then-symbol-shape
unfolding number refusal_number write_table
returns-then-symbol-shape c =
    let a = c.args in
    let (good, len) = whole (goal.at.returns-then-symbol-shape c).In_ok-accept_stripe in
    struck_8 a.shape a.stripe.now (a.shape.m - 1) a.column a.row a.symbol.now _ good len (omega arith) (omega arith) (λ e. omega arith)

pub replace-requires : goal.replace-requires
replace-requires c =
    let (good, len) = whole (goal.at.replace-requires c).In_ok-accept_stripe in (good, len, omega arith, omega arith, omega arith)

pub returns : goal.returns
unfolding number write_table
returns c =
    let (good, len) = whole (goal.at.returns c).In_ok-accept_stripe in
    let a = c.args in
    struck_done a.shape a.stripe.now (a.shape.m - 1) a.column a.row a.symbol.now _ good len (omega arith) (omega arith) (omega arith) _
    c.replace.ensures
