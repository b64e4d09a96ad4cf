-- What a turn reads is not changed yet: its own byte is ahead, and the bytes at `from` are apart.
use Rattle.std.proofs.Common.{ap₂, ⊎_elim, inl, inr, ℕ, ◌+◌, get_or, arith}
use Rattle.xor.specs.Xor.{◌⊕◌}
use Rattle.xor.proofs.Span.{span_more}
use Rattle.xor.proofs.change.Goals as goal

pub loop-t-preserved : goal.loop-t-preserved
unfolding ◌⊕◌
loop-t-preserved c =
    let start = c in
    let at = c.loop-t in
    let own = at.invariant.rest (start.args.at + at.t) (inr (omega arith)) in
    let other = at.invariant.rest (start.args.from + at.t) (⊎_elim (λ l. inr (omega arith)) (λ g. inl (omega arith)) start.requires.2) in
    span_more at.invariant _ (ap₂ (λ (a b : ℕ). a ⊕ (b ⊕ get_or start.args.x.now at.t 0)) own other) (omega (arith, at.invariant.long))
