-- `hex`: the buffer keeps its length, and what is used stays within it.
use mathlib.Core.Path.{◌≡◌}
use lib.ListN.{length}
use Rattle.v2calls.specs.Room.{Room}
use Rattle.v2calls.proofs.printing.hex.Given as goal

abbrev pub invariant-loop-byte : goal.invariant-loop-byte
invariant-loop-byte l = (length l.out ≡ length l.initial.out) × Room l.out l.at
