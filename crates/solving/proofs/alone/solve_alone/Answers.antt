use mathlib.Core.Path.{◌∙◌}
use Prim.Native.Nat.{◌-◌}
use native.Mathlib.Omega.{arith}
use Rattle.solving.proofs.StoresLaws.{solved_own}
use Rattle.solving.proofs.AloneLaws.{lone_room, lone_like, right_step, kept_step}
use Rattle.solving.proofs.alone.solve_alone.Goals as goal

pub own-requires : goal.own-requires
own-requires c =
    let l = c.loop-d in
    let r = l.invariant.0 in
    let room = lone_room _ _ _ _ r (l.d - 1) (omega arith) in (
      r.good,
      r.whole,
      c.chain_of-p.ensures.below,
      r.side_is,
      omega arith,
      omega (arith, r.far, r.good.m_fits.0),
      c.requires.1,
      omega (arith, room, c.base_of.ensures, c.place.ensures.at),
      λ z. absurd (omega (arith, r.far)),
    )

pub loop-d-preserved : goal.loop-d-preserved
loop-d-preserved c =
    let l = c.loop-d in
    let i = l.invariant in
    let r = i.0 in
    let own = c.own.ensures in
    let base = c.base_of.ensures in
    let place = c.place.ensures.at in (
      lone_like _ _ _ _ r _ own.long,
      own.long ∙ i.1,
      λ v k.
          let u = solved_own _ _ v k _ _ r.side_is r.column (omega arith) _ _ _ c.chain_of-p.ensures.is (omega (arith, base, place)) l.out _ _ own (λ h. absurd (omega (arith, r.far))) in
          (right_step _ _ _ _ r v _ (omega arith) _ u _ (omega arith) (i.2 v k).0, λ j o. kept_step _ _ _ _ r v _ (omega arith) _ u j o ∙ (i.2 v k).1 j o),
    )
