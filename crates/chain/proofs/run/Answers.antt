use mathlib.Core.Path.{ap, ◌∙◌}
use Prim.Native.Nat.{ℕ, ◌+◌}
use native.Mathlib.Omega.{arith}
use lib.ListN.{get_or}
use Rattle.xor.specs.Xor.{◌⊕◌}
use Rattle.shape.specs.Place.{byte}
use Rattle.walking.proofs.WalkLaws.{Step, step_of}
use Rattle.chain.specs.Chain.{two}
use Rattle.chain.proofs.Sums.{sums_more, two_at}
use Rattle.chain.proofs.run.Given.{Over}
use Rattle.chain.proofs.run.Goals as goal
use Rattle.chain.proofs.run.Goals.{After-pair-arg-1}

step : (g : Over) (c : After-pair-arg-1 g) → Step c.args.sh c.requires.ways.0 c.args.l c.args.r c.args.base c.loop-d.d
step g c = step_of c.requires.part.good c.requires.ways.1 c.loop-d.d (omega arith) (omega arith)

pub place-requires : goal.place-requires
place-requires g c = (c.requires.part.good, (step g c).high, (step g c).left_in)

pub overflow_add-r : goal.overflow_add-r
overflow_add-r g c = omega (arith, (step g (goal.at.overflow_add-r g c).After-pair-arg-1).right_in)

pub place-requires-in-loop-d : goal.place-requires-in-loop-d
place-requires-in-loop-d g c = let s = step g (goal.at.place-requires-in-loop-d g c).After-pair-arg-1 in (c.requires.part.good, s.high, s.right_in)

pub loop-d-preserved : goal.loop-d-preserved
loop-d-preserved g c =
    let at = c.loop-d in
    let d = at.d in (
      (λ p w t v h e. sums_more (two c.args.sh.n (byte c.args.sh c.args.s.now (c.args.from + t)) p) d v (omega (arith, w.low)) (at.invariant.0 p w t v h e)
          (c.pair.ensures.at t h
          ∙ ap (λ (x : ℕ). get_or at.acc t 0 ⊕ x)
          (two_at c.args.sh c.args.s.now p d c.args.from t c.place.ensures.at (w.left_is d (omega arith) (omega arith))
          c.place-in-loop-d.ensures.at (w.right_is d (omega arith) (omega arith))))),
      c.pair.ensures.whole,
    )
