-- `store`: a raw store of the stripe in the front of the buffer.
use mathlib.Core.Path.{refl}
use native.Mathlib.Omega.{arith}
use Rattle.std.proofs.lemmas.Result.{err_from_is_err_and}
use Rattle.std.specs.Prelude.{Ok, Err}
use Rattle.answer.specs.Answers.{number}
use Rattle.storing.specs.Store.{RawStore}
use Rattle.kinds.specs.Kinds.{storing, kind_number}
use Rattle.kinds.proofs.ToldLaws.{told_13, told_0, deed_err, told_early}
use Rattle.kinds.proofs.HoldingLaws.{asked_some, late}
use Rattle.setting.proofs.WritingLaws.{store_keeps, stores_front}
use Rattle.setting.proofs.symbols.store.Goals as goal

pub returns-in_err-shape : goal.returns-in_err-shape
unfolding kind_number
returns-in_err-shape c =
    let p = err_from_is_err_and c.from_residual.result c.from_residual.ensures.1 in
    λ room work. told_early storing _ _ _ room work _ _ _ (λ z. z) c.accepted.ensures c.in_err-shape.ensures.value p

pub returns-then-payload-lt2 : goal.returns-then-payload-lt2
unfolding kind_number number
returns-then-payload-lt2 c =
    let z = asked_some _ _ _ _ c.accepted.ensures c.in_ok-shape.ensures.value in
    λ room work. told_13 _ _ _ room work _ storing (late storing _ _ z.0 z.1) c.if-payload-lt2.true refl

pub returns-in_err-raw_store : goal.returns-in_err-raw_store
unfolding kind_number
returns-in_err-raw_store c =
    let a = c.args in
    let p = err_from_is_err_and c.from_residual-in_err-raw_store.result c.from_residual-in_err-raw_store.ensures.1 in
    let z = asked_some _ _ _ _ c.accepted.ensures c.in_ok-shape.ensures.value in
    λ room work. told_0 _ a.payload.now a.stripe.now room work _ storing (late storing _ _ z.0 z.1) _ (λ w. omega (arith, w, c.if-payload-lt2.false))
    (stores_front RawStore store_keeps _ _ z.0 a.payload.now a.stripe.now _ c.front-end.ensures _ _ _ (Err _) _ c.byte_at-column.ensures.0 c.byte_at-row.ensures.0
    c.in_err-raw_store.ensures (deed_err _ _ _ _ p))

pub returns : goal.returns
unfolding kind_number number
returns c =
    let a = c.args in
    let z = asked_some _ _ _ _ c.accepted.ensures c.in_ok-shape.ensures.value in
    λ room work. told_0 _ a.payload.now a.stripe.now room work _ storing (late storing _ _ z.0 z.1) _ (λ w. omega (arith, w, c.if-payload-lt2.false))
    (stores_front RawStore store_keeps _ _ z.0 a.payload.now a.stripe.now _ c.front-end.ensures _ _ _ (Ok tt) _ c.byte_at-column.ensures.0 c.byte_at-row.ensures.0
    c.in_ok-raw_store.ensures refl)
