-- Whether a block is like a part of a slice: `any` is 0 just where the bytes so far are the same.
use Prim.Native.Nat.{◌+◌}
use lib.ListN.{get_or}
use Rattle.xor.specs.Xor.{◌⊕◌}
use Rattle.looking.proofs.Seen.{Seen}
use Rattle.looking.proofs.same.Given as goal

abbrev pub invariant-loop-k : goal.invariant-loop-k
invariant-loop-k g l = Seen (λ t. get_or l.acc t 0 ⊕ get_or l.s (l.at + t) 0) l.k l.any
