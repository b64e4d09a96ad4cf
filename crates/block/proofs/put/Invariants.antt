-- A block stored: the first k bytes are, and the rest of s is as it was.
use lib.ListN.{get_or}
use Rattle.xor.specs.Spanned.{Spanned}
use Rattle.block.proofs.put.Given as goal

abbrev pub invariant-loop-k : goal.invariant-loop-k
invariant-loop-k g l = Spanned (λ t. get_or l.acc t 0) l.initial.s l.s l.at l.k
