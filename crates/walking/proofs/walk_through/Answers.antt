-- `walk_through` is the walk that it was given.
use Prim.Native.Nat.{◌-◌}
use native.Mathlib.Omega.{arith}
use Rattle.shape.proofs.GoodLaws.{good_room}
use Rattle.shape.proofs.StepLaws.{left_lt, right_lt}
use Rattle.walking.proofs.walk_through.Goals as goal

pub place-requires : goal.place-requires
place-requires c =
    let good = c.requires.0 in
    let sh = c.args.sh in
    (good, omega arith, omega (arith, c.requires.3, left_lt sh.n c.args.p (sh.m - 1) c.requires.1.here (omega (arith, good_room sh good))))

pub place-requires-2 : goal.place-requires-2
place-requires-2 c =
    let good = c.requires.0 in
    let sh = c.args.sh in
    (good, omega arith, omega (arith, c.requires.4, right_lt sh.n c.args.p (sh.m - 1) c.requires.1.here (omega (arith, good_room sh good))))
