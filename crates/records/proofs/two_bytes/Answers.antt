-- `two_bytes`.
use native.Mathlib.Omega.{arith}
use Rattle.records.specs.Record.{two_bytes}
use Rattle.records.proofs.two_bytes.Goals as goal

pub returns : goal.returns
unfolding two_bytes
returns c = (omega (arith, c.byte_at.ensures, c.byte_at-2.ensures), omega (arith, c.byte_at.ensures, c.byte_at-2.ensures))
