-- `attempt`: the end of the input, a record that is none, or a whole one.
use Rattle.std.proofs.Common.{ℕ, ◌+◌, ap, sym, ◌∙◌, arith}
use Rattle.std.proofs.lemmas.Bool.{eqb-false}
use Rattle.xor.proofs.TellsLaws.{told_no}
use Rattle.records.specs.Record.{counted, kind_of}
use Rattle.job.proofs.SteppingLaws.{framed, payload_is, step_framed}
use Rattle.job.proofs.stepping.attempt.Goals as goal

pub slice_bounds-decide-count : goal.slice_bounds-decide-count
unfolding counted
slice_bounds-decide-count c = let f = framed _ (told_no c.unframed.ensures c.if-unframed.false) in omega (arith, f.0, c.two_bytes-after.ensures.0)

pub slice_bounds-decide-start : goal.slice_bounds-decide-start
unfolding counted
slice_bounds-decide-start c = let f = framed _ (told_no c.unframed.ensures c.if-unframed.false) in omega (arith, f.0, c.two_bytes-after.ensures.0)

pub slice_bounds-decide-end : goal.slice_bounds-decide-end
unfolding counted
slice_bounds-decide-end c = let f = framed _ (told_no c.unframed.ensures c.if-unframed.false) in omega (arith, f.1, c.two_bytes-after.ensures.0)

pub returns : goal.returns
unfolding counted kind_of
returns c =
    let a = c.args in
    let after = ap (λ (k : ℕ). 2 + k) c.two_bytes-after.ensures.0 in
    let decided = c.decide-deed.ensures in (
      decided.0,
      λ clear zero.
          step_framed _ a.input.now _ _ _ clear zero (eqb-false _ _ (sym c.is_empty.ensures ∙ c.if-is_empty.false)) (told_no c.unframed.ensures c.if-unframed.false) _ _ _ _ _
          c.two_bytes-kind.ensures.0 after (payload_is a.input.now _ after) (decided.1 clear zero) c.made.ensures,
    )
