-- `tally`: a block that is zero adds no bit; of any other the bits are counted.
use mathlib.Core.Path.{refl, sym, ap, ◌∙◌}
use Prim.Native.Nat.{◌+◌}
use native.Mathlib.Omega.{arith}
use lib.Count.{ones}
use Rattle.xor.proofs.TotalLaws.{total_zero, total_same}
use Rattle.looking.proofs.OnesLaws.{ones_zero}
use Rattle.rule.specs.Rule.{differs}
use Rattle.checking.proofs.Counting.{counts_of}
use Rattle.checking.proofs.tally.Goals as goal

pub returns-then-not-none : goal.returns-then-not-none
returns-then-not-none g c =
    let sh = c.args.wk.shape in
    let s = c.args.s.now in
    let p = c.args.wk.p in
    let from = c.args.from in
    let n = c.count.ensures in (
      refl,
      counts_of sh s p from g.row.LEN
          (n.sum ∙ total_same g.row.LEN _ (λ t. ones (differs sh s p (from + t))) (λ t h. ap ones (c.difference-acc.ensures.at t h)))
          n.most refl,
    )

pub returns-else-not-none : goal.returns-else-not-none
returns-else-not-none g c =
    let sh = c.args.wk.shape in
    let s = c.args.s.now in
    let p = c.args.wk.p in
    let from = c.args.from in
    let zero = c.none.ensures.yes c.if-not-none.false in (
      refl,
      counts_of sh s p from g.row.LEN
          (sym (total_zero g.row.LEN (λ t. ones (differs sh s p (from + t))) (λ t h. ap ones (sym (c.difference-acc.ensures.at t h) ∙ zero t h) ∙ ones_zero)))
          (omega arith) (omega arith),
    )
