-- `above`: past column n - 1 the columns go on at 0.
use native.Mathlib.Omega.{arith}
use Rattle.shape.proofs.StepLaws.{right_lt}
use Rattle.walking.proofs.WalkLaws.{right_near, right_far}
use Rattle.walking.proofs.above.Goals as goal

pub returns-then-e-n : goal.returns-then-e-n
returns-then-e-n c =
    let a = c.args in
    let e = right_near a.n a.c c.requires.0 a.d (omega arith) in
    record { is = e; below = omega (arith, e, right_lt a.n a.c a.d c.requires.0 c.requires.1) }

pub returns : goal.returns
returns c =
    let a = c.args in
    let e = right_far a.n a.c c.requires.0 a.d (omega arith) c.requires.1 in
    record { is = e; below = omega (arith, e, right_lt a.n a.c a.d c.requires.0 c.requires.1) }
