-- `print`: five fields, one after the other, each over what the one before left.
use native.Mathlib.Omega.{arith}
use Rattle.line.specs.Printed.{text}
use Rattle.line.proofs.PrintedLaws.{front_none, front_more}
use Rattle.line.proofs.print.Goals as goal

pub returns : goal.returns
unfolding text
returns c =
    let f = front_more (front_more (front_more (front_more (front_more (front_none _) c.put-kind.ensures) c.put-answer.ensures) c.put-x.ensures) c.put-y.ensures) c.put.ensures in
    record { short = λ l. absurd (omega (arith, l)); whole = λ l. (f.long, f.is) }
