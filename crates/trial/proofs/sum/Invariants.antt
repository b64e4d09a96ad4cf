-- `sum`: the sum stays below 65521.
use Prim.Native.Nat.{◌<◌}
use Rattle.trial.proofs.sum.Given as goal

abbrev pub invariant-loop-byte : goal.invariant-loop-byte
invariant-loop-byte l = l.sum < 65521
