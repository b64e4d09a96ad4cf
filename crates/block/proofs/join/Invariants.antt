-- Another block added: acc has that below k, and what it had from k on.
use lib.ListN.{get_or}
use Rattle.xor.specs.Xor.{◌⊕◌}
use Rattle.block.proofs.Upto.{Upto}
use Rattle.block.proofs.join.Given as goal

abbrev pub invariant-loop-k : goal.invariant-loop-k
invariant-loop-k g l = Upto (λ t. get_or l.initial.acc t 0 ⊕ get_or l.other t 0) l.initial.acc l.acc l.k
