-- `further`. The invariant: i is one of every second from start on, at most one past end, and those before it are moved.
use Rattle.std.proofs.Common.{◌+◌}
use Rattle.listing.specs.Places.{EverySecond, Further}
use Rattle.listing.proofs.further.Given as goal

abbrev pub invariant-loop-i : goal.invariant-loop-i
invariant-loop-i l = EverySecond l.start (l.end + 2) l.i × Further l.initial.list l.start l.i l.by l.list
