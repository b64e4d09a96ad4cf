-- The sum of two parts of slices, byte by byte: acc has that below k, and what it had from k on.
use Prim.Native.Nat.{◌+◌}
use lib.ListN.{get_or}
use Rattle.xor.specs.Xor.{◌⊕◌}
use Rattle.block.proofs.Upto.{Upto}
use Rattle.block.proofs.both.Given as goal

abbrev pub invariant-loop-k : goal.invariant-loop-k
invariant-loop-k g l = Upto (λ t. get_or l.s (l.a + t) 0 ⊕ get_or l.t (l.b + t) 0) l.initial.acc l.acc l.k
