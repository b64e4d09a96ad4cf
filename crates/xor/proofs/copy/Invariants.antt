-- `copy`: after t turns the first t bytes are copied and the rest of s is as it was.
use Rattle.std.proofs.Common.{get_or}
use Rattle.xor.specs.Spanned.{Spanned}
use Rattle.xor.proofs.copy.Given as goal

abbrev pub invariant-loop-t : goal.invariant-loop-t
invariant-loop-t l = Spanned (λ k. get_or l.from k 0) l.initial.s l.s l.at l.t
