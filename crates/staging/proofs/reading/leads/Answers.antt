-- `leads`.
use native.Mathlib.Omega.{arith}
use Rattle.staging.proofs.ReadingLaws.{first_nearer, first_farther, first_level}
use Rattle.staging.proofs.reading.leads.Goals as goal

pub returns-then-up-back : goal.returns-then-up-back
returns-then-up-back c =
    first_nearer c.args.n c.args.a c.args.b c.requires.3 (omega (arith, c.upward-up.ensures, c.upward-back.ensures))

pub returns-then-back-up : goal.returns-then-back-up
returns-then-back-up c =
    first_farther c.args.n c.args.a c.args.b c.requires.3 (omega (arith, c.upward-up.ensures, c.upward-back.ensures))

pub returns : goal.returns
returns c =
    first_level c.args.n c.args.a c.args.b c.requires.3 (omega (arith, c.upward-up.ensures, c.upward-back.ensures))
