-- `along` wraps where the chain does: past column 0 from height p + 1 on, past column n - 1 from height n - p on, on one side at most.
use Prim.Native.Nat.{◌+◌, ◌-◌}
use native.Mathlib.Omega.{arith}
use Rattle.walking.proofs.WalkLaws.{left_near, left_far, right_near, right_far, ways_near, ways_none, ways_left, ways_right}
use Rattle.walking.proofs.along.Goals as goal

pub walk_through-requires : goal.walk_through-requires
walk_through-requires c =
    let sh = c.args.sh in let p = c.args.p in let here = c.requires.1 in let top = sh.m - 1 in (
      c.requires.0,
      ways_near sh p here 1 (p + 1) (omega arith) (omega arith) (omega arith) (omega arith) (omega arith),
      ways_left sh p here top (omega arith) (omega arith) (omega arith),
      left_far sh.n p here top (omega arith) (omega arith),
      right_near sh.n p here top (omega arith),
    )

pub walk_through-requires-then-p-top-2 : goal.walk_through-requires-then-p-top-2
walk_through-requires-then-p-top-2 c =
    let sh = c.args.sh in let p = c.args.p in let here = c.requires.1 in let top = sh.m - 1 in (
      c.requires.0,
      ways_near sh p here 1 top (omega arith) (omega arith) (omega arith) (omega arith) (omega arith),
      ways_none sh p here top top (omega arith) (omega arith) (omega arith) p p top (omega arith) (omega arith),
      left_near sh.n p here top (omega arith),
      right_near sh.n p here top (omega arith),
    )

pub walk_through-requires-2 : goal.walk_through-requires-2
walk_through-requires-2 c =
    let sh = c.args.sh in let p = c.args.p in let here = c.requires.1 in let top = sh.m - 1 in (
      c.requires.0,
      ways_near sh p here 1 (sh.n - p) (omega arith) (omega arith) (omega arith) (omega arith) (omega arith),
      ways_right sh p here top (omega arith) (omega arith) (omega arith),
      left_near sh.n p here top (omega arith),
      right_far sh.n p here top (omega arith) (omega arith),
    )
