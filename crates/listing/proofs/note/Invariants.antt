-- `note`. The invariant: the heights below d are noted.
use Rattle.listing.specs.Places.{Listed}
use Rattle.listing.proofs.note.Given as goal

abbrev pub invariant-loop-d : goal.invariant-loop-d
invariant-loop-d l = Listed l.sh l.p l.d l.list
