-- `two_apart`: rebuild has one outcome, and P6 is it.
use mathlib.Core.Path.{refl, ◌∙◌}
use native.Mathlib.Omega.{arith}
use Rattle.std.proofs.lemmas.Slice.Eq.{bytes_eq-Decides}
use Rattle.rule.specs.declared.Losses.TheVariants.{Two}
use Rattle.demands.specs.Cases.{woven, information, parity, stripe₅, lost_0_2}
use Rattle.demands.proofs.Five.{p6}
use Rattle.by_hand.proofs.Told.{rebuild_told}
use Rattle.by_hand.proofs.two_apart.Goals as goal

pub expect-requires : goal.expect-requires
unfolding woven lost_0_2
expect-requires g c =
    c.is_ok.ensures.value ∙ (rebuild_told _ _ lost_0_2 (Two 0 2) 4 _ _ _ _ c.five.ensures refl (omega arith) p6 c.rebuild-answer.ensures).0

pub expect-requires-2 : goal.expect-requires-2
unfolding woven information parity stripe₅ lost_0_2
expect-requires-2 g c =
    c.eq.ensures ∙ (bytes_eq-Decides _ _).1 (rebuild_told _ _ lost_0_2 (Two 0 2) 4 _ _ _ _ c.five.ensures refl (omega arith) p6 c.rebuild-answer.ensures).1
