use mathlib.Core.Path.{sym, ap, ◌∙◌}
use native.Mathlib.Omega.{arith}
use lib.ListN.{length}
use Rattle.line.proofs.PrintedLaws.{digits_are, digits_few, put_from}
use Rattle.line.proofs.put.Goals as goal

-- `put`: the kit's digits are the number's, the copy puts them at the place, and the store puts the byte after them.
pub returns : goal.returns
returns c =
    let digits = c.decimal-count.ensures in
    let copied = c.copy_from_slice.ensures.after in
    let few = digits_few c.args.number _ (omega arith) digits.len in
    put_from c.args.number c.args.mark c.decimal-count.result c.copy_from_slice.new.self c.args.out.now c.args.at _
    (digits.in_bounds.1 ∙ ap length (sym copied)) (copied ∙ digits.digits ∙ digits_are _ _ digits.len) few c.requires (omega arith)
