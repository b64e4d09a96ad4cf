-- `sources`: the parity symbol takes the lost one's place in the list, unless it is the lost one itself; the last takes that of the asked one.
use mathlib.Core.Path.{◌≡◌}
use native.Mathlib.Omega.{arith}
use Rattle.sourcing.proofs.SourcesLaws.{Taken, taken_parity, taken_at, sourced_top, sourced_next}
use Rattle.sourcing.proofs.sources.Goals as goal
use Rattle.sourcing.proofs.sources.Goals.{Joined-d-gt0, then-d-gt0, else-d-gt0}

-- the lost symbol is taken out
taken : (c : Joined-d-gt0) → Taken c.args.sh c.args.p c.args.side c.args.d c.args.list.now c.if-d-gt0.list
taken c =
    let a = c.args in
    let l = c.requires.7 in
    elim c.if-d-gt0.branch [
      | then-d-gt0 w ↦ rw w.list-is (taken_at a.sh c.requires.0 a.p c.requires.1 a.side c.requires.2 a.list.now l a.d (omega (arith, w.if-d-gt0.true)) c.requires.3 _ (omega (arith, c.requires.0.m_fits.0)))
      | else-d-gt0 w ↦ let e : a.d ≡ 0 = omega (arith, w.if-d-gt0.false) in rw (w.list-is, e) (taken_parity a.sh c.requires.0 a.p c.requires.1 a.side c.requires.2 a.list.now l)
    ]

pub returns-then-h-sh : goal.returns-then-h-sh
returns-then-h-sh c =
    let a = c.args in
    sourced_next a.sh c.requires.0 a.p c.requires.1 a.side c.requires.2 _ c.requires.7 a.d a.aside a.h a.b c.requires.4 c.requires.5 c.requires.6 c.if-d-gt0.list (taken (goal.at.returns-then-h-sh c).Joined-d-gt0) (omega arith)

pub returns : goal.returns
returns c =
    let a = c.args in
    sourced_top a.sh c.requires.0 a.p c.requires.1 a.side c.requires.2 _ c.requires.7 a.d a.aside a.h a.b c.requires.4 c.requires.5 c.requires.6 c.if-d-gt0.list (taken (goal.at.returns c).Joined-d-gt0) (omega arith)
