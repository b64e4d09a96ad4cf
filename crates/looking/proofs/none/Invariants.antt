-- Whether a block is 0: `any` is 0 just where the bytes so far are.
use lib.ListN.{get_or}
use Rattle.looking.proofs.Seen.{Seen}
use Rattle.looking.proofs.none.Given as goal

abbrev pub invariant-loop-k : goal.invariant-loop-k
invariant-loop-k g l = Seen (λ t. get_or l.acc t 0) l.k l.any
