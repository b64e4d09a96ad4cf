-- `serve_all`: the state is steady before each call.
use mathlib.Core.Path.{◌≡◌}
use lib.ListN.{length}
use Rattle.v2calls.specs.Room.{Steady}
use Rattle.v2calls.proofs.serving.serve_all.Given as goal

abbrev pub invariant-loop : goal.invariant-loop
invariant-loop l = (length l.input ≡ length l.initial.input) × (length l.first ≡ length l.initial.first) × (length l.second ≡ length l.initial.second) × (length l.out ≡ length l.initial.out) × (length l.first ≡ 66000) × (length l.second ≡ 20000) × Steady l.input l.out l.state
