-- `fetch`: the bytes brought are within `out`, and the feed stays within the input buffer. The measure is what is left of `out`.
use mathlib.Core.Path.{◌≡◌}
use Prim.Native.Nat.{◌-◌, ◌≤◌}
use lib.ListN.{length}
use Rattle.v2calls.specs.Room.{Fed}
use Rattle.v2calls.proofs.feeding.fetch.Given as goal

abbrev pub invariant-loop-done : goal.invariant-loop-done
invariant-loop-done l = (l.done ≤ length l.out) × (length l.out ≡ length l.initial.out) × (length l.input ≡ length l.initial.input) × Fed l.input l.feed

abbrev pub decreases-loop-done : goal.decreases-loop-done
decreases-loop-done l = length l.out - l.done
