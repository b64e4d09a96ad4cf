-- `alone_if_lost`.
use native.Mathlib.Omega.{arith}
use Rattle.staging.proofs.StagingLaws.{stageable_lone}
use Rattle.staging.proofs.staging.alone_if_lost.Goals as goal

pub solve_alone-requires : goal.solve_alone-requires
solve_alone-requires c =
    (stageable_lone _ _ _ c.requires.0 c.requires.2 _ c.requires.3 (omega (arith, c.column_of.ensures)), c.requires.1)
