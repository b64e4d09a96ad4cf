-- `below`: past column 0 the columns go on at n - 1.
use native.Mathlib.Omega.{arith}
use Rattle.shape.proofs.StepLaws.{left_lt}
use Rattle.walking.proofs.WalkLaws.{left_near, left_far}
use Rattle.walking.proofs.below.Goals as goal

pub returns-then-c-d : goal.returns-then-c-d
returns-then-c-d c =
    let a = c.args in
    let e = left_far a.n a.c c.requires.0 a.d (omega arith) c.requires.1 in
    record { is = e; below = omega (arith, e, left_lt a.n a.c a.d c.requires.0 c.requires.1) }

pub returns : goal.returns
returns c =
    let a = c.args in
    let e = left_near a.n a.c c.requires.0 a.d (omega arith) in
    record { is = e; below = omega (arith, e, left_lt a.n a.c a.d c.requires.0 c.requires.1) }
