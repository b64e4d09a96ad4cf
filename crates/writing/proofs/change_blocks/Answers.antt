use mathlib.Core.Path.{refl, ap, ◌∙◌}
use Prim.Native.Nat.{ℕ, ◌+◌}
use native.Mathlib.Omega.{arith}
use lib.ListN.{get_or}
use Rattle.xor.specs.Xor.{◌⊕◌}
use Rattle.xor.specs.Spanned.{change_of}
use Rattle.xor.proofs.XorLaws.{⊕_comm}
use Rattle.xor.proofs.Span.{span_same, span_then}
use Rattle.writing.proofs.Changed.{change_on}
use Rattle.writing.proofs.change_blocks.Goals as goal

pub loop-t-preserved : goal.loop-t-preserved
loop-t-preserved c =
    let a = c.args in
    let l = c.loop-t in
    let both = c.both-acc.ensures in
    let add = c.add.ensures in (
      omega arith,
      omega arith,
      span_then (change_of a.s.now a.at a.from a.x.now) l.invariant.2
          (span_same _ c.put.ensures refl (λ k h.
          add.at k h ∙ ap (λ (z : ℕ). z ⊕ get_or l.s (a.at + l.t + k) 0) (both.at k h) ∙ ⊕_comm _ _
          ∙ change_on a.s.now a.x.now a.at a.from a.whole c.requires.4 l.s l.t l.invariant.2 k _ (omega arith))),
    )
