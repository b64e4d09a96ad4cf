-- `sum_at`: the first two symbols, then the list's two by two. The invariant: the pairs below i are added.
use Prim.Native.Nat.{◌+◌, ◌*◌}
use lib.ListN.{get_or}
use Rattle.xor.specs.Xor.{◌⊕◌}
use Rattle.block.specs.Block.{Block}
use Rattle.summing.specs.Sums.{part_of, start_of, flat}
use Rattle.summing.proofs.sum_at.Given as goal

abbrev pub invariant-loop-i : goal.invariant-loop-i
invariant-loop-i g l =
    Block (λ k.
    (get_or l.s (l.fn.x.a + (l.from + k)) 0 ⊕ get_or (part_of l.s l.out l.fn.x.b) (start_of l.fn.x.b + (l.from + k)) 0) ⊕ flat l.s l.list (l.from + k) (2 * l.i)) l.len g.row.LEN l.acc
