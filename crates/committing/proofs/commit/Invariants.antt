-- `commit`: the first k stores are made.
use Rattle.committing.specs.Committing.{Made}
use Rattle.committing.proofs.commit.Given as goal

abbrev pub invariant-loop-k : goal.invariant-loop-k
invariant-loop-k l = Made l.x l.work l.k l.initial.stripe l.stripe
