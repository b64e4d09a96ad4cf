-- `wrap`: what lies beyond the wrap on the left, or on the right, is moved by the length of the stripe; the others and the parity symbol stay.
use Rattle.std.proofs.Common.{arith}
use Rattle.listing.proofs.PlacesLaws.{laid_right}
use Rattle.listing.proofs.wrap.Goals as goal

pub returns-then-n-p : goal.returns-then-n-p
returns-then-n-p c =
    let is = c.stripe_length-then-n-p.ensures.is in
    laid_right c.args.sh c.requires.0 c.args.p c.requires.1 c.args.list.now c.requires.2 _ _ (omega arith) (omega arith)
    (omega (arith, is)) c.further-then-n-p.ensures
