-- `serve`: all that waits stays inside its buffer, and no buffer changes its length.
use Rattle.std.proofs.Common.{◌≡◌, length}
use Rattle.v2job.specs.Waiting.{Goes}
use Rattle.v2job.proofs.serve.Given as goal

abbrev pub invariant-loop : goal.invariant-loop
invariant-loop l =
    Goes l.run (length l.input) (length l.output) × (length l.input ≡ length l.initial.input) × (length l.output ≡ length l.initial.output) × (length l.stripe ≡ length l.initial.stripe) × (length l.work ≡ length l.initial.work)
