-- A part of a slice as a block: acc has that below k, and what it had from k on.
use Prim.Native.Nat.{◌+◌}
use lib.ListN.{get_or}
use Rattle.block.proofs.Upto.{Upto}
use Rattle.block.proofs.get.Given as goal

abbrev pub invariant-loop-k : goal.invariant-loop-k
invariant-loop-k g l = Upto (λ t. get_or l.s (l.at + t) 0) l.initial.acc l.acc l.k
