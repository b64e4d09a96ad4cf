-- `encode_all`: the columns below p are set.
use Rattle.encoding.specs.Settled.{Settled, Below}
use Rattle.encoding.proofs.encode_all.Given as goal

abbrev pub invariant-loop-p : goal.invariant-loop-p
invariant-loop-p l = Settled l.sh (Below l.p) l.initial.stripe l.stripe
