-- `search`. The invariant of the columns: none that was tried explains the differences. The invariant of the heights: at each height below d
-- the chains on either side of c differ alike. The measure is what is left of the columns.
use Prim.Native.Nat.{ℕ, ◌-◌, ◌≤◌, ◌<◌}
use Rattle.shape.specs.Step.{left, right}
use Rattle.locating.specs.Locate.{Explains}
use Rattle.locating.specs.Locating.{Alike}
use Rattle.locating.proofs.search.Given as goal

abbrev pub invariant-loop-d : goal.invariant-loop-d
invariant-loop-d l = (e : ℕ) → e < l.d → 1 ≤ e → Alike l.stripe.shape l.stripe.bytes.now (left l.stripe.shape.n l.c e) (right l.stripe.shape.n l.c e)

abbrev pub invariant-columns : goal.invariant-columns
invariant-columns l = (l.next ≤ l.stripe.shape.n) × ((k : ℕ) → k < l.next → ¬ Explains l.stripe.shape l.stripe.bytes.now k)

abbrev pub decreases-columns : goal.decreases-columns
decreases-columns l = l.stripe.shape.n - l.next
