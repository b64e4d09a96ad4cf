-- `pattern`: x stays below 65536.
use Prim.Native.Nat.{◌<◌}
use Rattle.trial.proofs.pattern.Given as goal

abbrev pub invariant-loop-byte : goal.invariant-loop-byte
invariant-loop-byte l = l.x < 65536
