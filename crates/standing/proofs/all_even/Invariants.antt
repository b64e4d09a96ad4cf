-- `all_even`: p is i up from `start`, and the chains before it obey the rule.
use mathlib.Core.Path.{◌≡◌}
use Prim.Native.Nat.{ℕ, ◌<◌}
use Rattle.shape.specs.Step.{right}
use Rattle.standing.specs.Standing.{Even}
use Rattle.standing.proofs.all_even.Given as goal

abbrev pub invariant-loop-i : goal.invariant-loop-i
invariant-loop-i l =
    let sh = l.stripe.shape in
    (l.p < sh.n) × (l.p ≡ right sh.n l.start l.i) × ((j : ℕ) → j < l.i → Even sh l.stripe.bytes.now (right sh.n l.start j) 0 sh.w)
