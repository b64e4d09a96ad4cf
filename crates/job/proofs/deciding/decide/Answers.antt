-- `decide`: each arm of the match.
use Rattle.std.proofs.Common.{refl}
use Rattle.answer.specs.Answers.{number}
use Rattle.kinds.specs.Kinds.{shaping, writing, storing, checking, locating, rebuilding, kind_number}
use Rattle.kinds.proofs.KindsLaws.{unknown}
use Rattle.job.proofs.DecidingLaws.{decides_kind, decides_unknown}
use Rattle.job.proofs.deciding.decide.Goals as goal

pub returns-in-1 : goal.returns-in-1
unfolding kind_number
returns-in-1 c = (refl, λ clear zero. decides_kind _ _ _ _ _ _ clear shaping _ c.in-1.is (rw c.begun.ensures (c.begin.ensures.told c.args.held _ clear)))

pub returns-in-2 : goal.returns-in-2
unfolding kind_number
returns-in-2 c = (refl, λ clear zero. decides_kind _ _ _ _ _ _ clear writing _ c.in-2.is (rw c.tell.ensures (c.write.ensures _ clear)))

pub returns-in-3 : goal.returns-in-3
unfolding kind_number
returns-in-3 c = (refl, λ clear zero. decides_kind _ _ _ _ _ _ clear storing _ c.in-3.is (rw c.tell-in-3.ensures (c.store.ensures _ clear)))

pub returns-in-4 : goal.returns-in-4
unfolding kind_number
returns-in-4 c = (refl, λ clear zero. decides_kind _ _ _ _ _ _ clear checking _ c.in-4.is (rw c.tell-in-4.ensures (c.check.ensures _ clear)))

pub returns-in-5 : goal.returns-in-5
unfolding kind_number
returns-in-5 c = (refl, λ clear zero. decides_kind _ _ _ _ _ _ clear locating _ c.in-5.is (rw c.tell-in-5.ensures (c.locate.ensures _ clear)))

pub returns-in-6 : goal.returns-in-6
unfolding kind_number
returns-in-6 c = (c.mend.ensures.0, λ clear zero. decides_kind _ _ _ _ _ _ clear rebuilding _ c.in-6.is (rw c.tell-in-6.ensures (c.mend.ensures.1 clear zero)))

pub returns-in_default : goal.returns-in_default
unfolding kind_number number
returns-in_default c =
    let no = c.in_default.in_default-own.rest in
    (refl, λ clear zero. decides_unknown _ _ _ _ _ _ clear c.in_default.if-kind-lt32768-own.true (unknown _ no.0.0.0.0.0.1 no.0.0.0.0.1 no.0.0.0.1 no.0.0.1 no.0.1 no.1) c.tell-in_default.ensures)
