-- `order`.
use Rattle.xor.proofs.TellsLaws.{told_no}
use Rattle.staging.proofs.ReadingLaws.{read_first, read_second}
use Rattle.staging.proofs.reading.order.Goals as goal

pub returns-then-leads : goal.returns-then-leads
returns-then-leads c =
    read_first c.args.shape c.args.a c.args.b _ _ c.requires.3 c.column_length-two.ensures.is
    (c.leads.ensures.yes c.if-leads.true) c.upward-walk.ensures

pub returns : goal.returns
returns c =
    read_second c.args.shape c.args.a c.args.b _ _ c.requires.3 c.column_length-two.ensures.is
    (told_no c.leads.ensures c.if-leads.false) c.upward-walk-2.ensures
