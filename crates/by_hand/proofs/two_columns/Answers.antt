-- `two_columns`: check and locate have one result each, and P10 is it.
use mathlib.Core.Path.{refl, ◌∙◌}
use Rattle.demands.proofs.Five.{counts₅, find₁₀}
use Rattle.by_hand.proofs.Told.{check_told, locate_told, alike}
use Rattle.by_hand.proofs.two_columns.Goals as goal

pub expect-requires : goal.expect-requires
expect-requires g c = c.counts.ensures.no (check_told _ _ _ 4 4 _ c.five.ensures c.flipped-stripe.ensures counts₅.1 c.check.ensures)

pub expect-requires-2 : goal.expect-requires-2
expect-requires-2 g c = c.eq.ensures ∙ alike _ _ _ _ (locate_told _ _ _ _ _ c.five-2.ensures c.flipped-stripe.ensures find₁₀ c.locate.ensures) refl
