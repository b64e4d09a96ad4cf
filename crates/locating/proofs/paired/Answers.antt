-- `paired`: by their bits where one of the two chains holds, and by their bytes where none does.
use Rattle.xor.proofs.TellsLaws.{tells_true, tells_false}
use Rattle.locating.proofs.LocatingLaws.{bits_apart, bits_alike, tells_both}
use Rattle.locating.proofs.paired.Goals as goal

pub returns-then-bits-p : goal.returns-then-bits-p
returns-then-bits-p c =
    let bits = c.requires.0 in
    tells_both c.args.stripe.shape c.args.stripe.bytes.now c.left-p.ensures.is c.right-q.ensures.is
    (tells_false (bits_apart c.args.stripe.shape c.args.stripe.bytes.now c.left-p.result c.right-q.result _ _
    (bits.at c.left-p.result c.left-p.ensures.below) (bits.at c.right-q.result c.right-q.ensures.below) c.if-bits-p.true))

pub returns-then-bits-p-eq0 : goal.returns-then-bits-p-eq0
returns-then-bits-p-eq0 c =
    let bits = c.requires.0 in
    tells_both c.args.stripe.shape c.args.stripe.bytes.now c.left-p.ensures.is c.right-q.ensures.is
    (tells_true (bits_alike c.args.stripe.shape c.args.stripe.bytes.now c.left-p.result c.right-q.result _ _
    (bits.at c.left-p.result c.left-p.ensures.below) (bits.at c.right-q.result c.right-q.ensures.below) c.if-bits-p.false c.if-bits-p-eq0.true))
