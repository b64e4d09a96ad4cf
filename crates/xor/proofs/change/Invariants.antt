-- `change`: after t turns the first t bytes are changed and the rest of s is as it was.
use Rattle.xor.specs.Spanned.{Spanned, change_of}
use Rattle.xor.proofs.change.Given as goal

abbrev pub invariant-loop-t : goal.invariant-loop-t
invariant-loop-t l = Spanned (change_of l.initial.s l.at l.from l.x) l.initial.s l.s l.at l.t
