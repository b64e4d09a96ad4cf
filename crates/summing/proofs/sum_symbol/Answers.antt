-- `sum_symbol`: the whole blocks, then the tail after them.
use native.Mathlib.Omega.{arith}
use Rattle.summing.proofs.SumsLaws.{summed_then}
use Rattle.summing.proofs.sum_symbol.Goals as goal

pub returns : goal.returns
returns c =
    let a = c.args in
    summed_then a.s.now a.list.now a.x a.at a.w c.requires.2 a.out.now _ _ 0 _ a.w (omega arith) (omega arith) (omega arith) c.sum_blocks.ensures c.sum_tail.ensures
