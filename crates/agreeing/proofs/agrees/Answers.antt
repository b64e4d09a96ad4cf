use mathlib.Core.Path.{◌≡◌, ap}
use mathlib.Core.Logic.{inr}
use mathlib.Core.Bool.{cond}
use native.Mathlib.Omega.{arith}
use lib.Dec.{ltb}
use borrow.Author.Tests.{lt-ltb, le-ltb}
use Rattle.agreeing.proofs.AgreeingLaws.{asked_pos, agrees_tells}
use Rattle.agreeing.proofs.RoomLaws.{one_small, two_small, asked_fits, compared_lt, compared_fits}
use Rattle.agreeing.proofs.agrees.Goals as goal
use Rattle.agreeing.proofs.agrees.Goals.{Joined-d-sh, then-d-sh, else-d-sh}

-- `agrees`: the chain's other symbols summed, and compared with first's symbol or with the parity symbol.
-- the slice that was picked
picked : (c : Joined-d-sh)
    → c.if-d-sh.u.now ≡ cond (ltb c.args.d c.args.x.shape.m) c.args.out.now c.args.s.now
picked c =
    elim c.if-d-sh.branch [
      | then-d-sh w ↦ rw (lt-ltb c.args.d c.args.x.shape.m w.if-d-sh.true) (ap (λ x. x.now) w.u-is)
      | else-d-sh w ↦ rw (le-ltb c.args.d c.args.x.shape.m (omega (arith, w.if-d-sh.false))) (ap (λ x. x.now) w.u-is)
    ]

pub spot-b-requires : goal.spot-b-requires
spot-b-requires c = (c.requires.0.good, two_small _ _ _ c.requires.0)

pub sources-from-requires : goal.sources-from-requires
sources-from-requires c =
    let a = c.args in
    (c.requires.0.good, c.requires.1, omega arith, compared_lt a.x a.s.now a.out.now c.requires.0 a.d _ c.compared.ensures, omega arith, omega (arith, c.requires.5, asked_pos a.x c.requires.0.good a.p c.requires.1 c.requires.2), inr (λ e. omega arith), c.wrap.ensures)

pub compared_at-requires : goal.compared_at-requires
compared_at-requires c = (c.requires.0.good, c.requires.1, one_small _ _ _ c.requires.0)

pub matches-requires : goal.matches-requires
matches-requires c =
    let a = c.args in
    let b = c.spot-b in (
      c.sources-from.ensures.fits a.s.now a.out.now c.requires.0.whole (asked_fits a.x a.s.now a.out.now c.requires.0 a.h b.result b.ensures),
      compared_fits a.x a.s.now a.out.now c.requires.0 a.p a.d _ _ c.requires.1 (picked (goal.at.matches-requires c).Joined-d-sh) c.compared_at.ensures,
    )

pub returns : goal.returns
returns c =
    let a = c.args in
    let b = c.spot-b in
    let from = c.sources-from in
    agrees_tells a.x c.requires.0.good a.p c.requires.1 c.requires.2 a.s.now a.out.now c.requires.0 a.h b.result c.requires.5 b.ensures from.new.list from.result _ _
    a.d _ _ c.requires.4 c.compared.ensures (picked (goal.at.returns c).Joined-d-sh) c.compared_at.ensures from.ensures c.matches.ensures
