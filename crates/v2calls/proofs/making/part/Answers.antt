-- `part`: choose and column hand out, and no other call does.
use mathlib.Core.Path.{refl, sym, ap}
use Rattle.v2calls.specs.declared.call.Call.TheVariants.{Choose, Column}
use Rattle.v2calls.specs.Calls.{call_number}
use Rattle.v2calls.specs.Told.{HandsOut}
use Rattle.v2calls.proofs.CallLaws.{number_not}
use Rattle.v2calls.proofs.making.part.Goals as goal

pub returns-in-Choose : goal.returns-in-Choose
unfolding call_number
returns-in-Choose c = HandsOut.chooses (ap call_number c.in-Choose.is) (rw (sym c.named.ensures) c.choose.ensures)

pub returns-in-Column : goal.returns-in-Column
unfolding call_number
returns-in-Column c = HandsOut.reads (ap call_number c.in-Column.is) c.column.ensures

pub returns-in_default : goal.returns-in_default
unfolding call_number
returns-in_default c = HandsOut.nothing (number_not _ Choose c.in_default.not-Choose) (number_not _ Column c.in_default.not-Column) refl
