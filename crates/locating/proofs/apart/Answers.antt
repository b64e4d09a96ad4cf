-- `apart`: the steps up from c to p, and those from p up to c, are m or more.
use Rattle.xor.proofs.TellsLaws.{tells_true, tells_false}
use Rattle.locating.proofs.LocatingLaws.{apart_below, apart_above, apart_far}
use Rattle.locating.proofs.apart.Goals as goal

pub returns-then-steps-m : goal.returns-then-steps-m
returns-then-steps-m c = tells_false (apart_below c.args.shape c.requires.0 c.args.c c.args.p c.requires.1 c.requires.2 c.if-steps-m.true)

pub returns-then-n-steps : goal.returns-then-n-steps
returns-then-n-steps c =
    tells_false (apart_above c.args.shape c.requires.0 c.args.c c.args.p c.requires.1 c.requires.2 c.if-n-steps.true)

pub returns : goal.returns
returns c =
    tells_true (apart_far c.args.shape c.requires.0 c.args.c c.args.p c.requires.1 c.requires.2 c.if-steps-m.false c.if-n-steps.false)
