use Rattle.std.proofs.Common.{◌+◌, ◌-◌, ◌<◌, arith}
use Rattle.walking.proofs.WalkLaws.{left_near, right_near}
use Rattle.listing.proofs.PlacesLaws.{listed_more}
use Rattle.listing.proofs.note.Goals as goal

pub loop-d-preserved : goal.loop-d-preserved
loop-d-preserved c =
    let at = c.loop-d in
    let sh = c.args.sh in
    let p = c.args.p in
    let d = at.d in
    let here : p < sh.n = omega (arith, c.requires.0.m_fits.0, c.requires.2) in
    listed_more sh p d at.list c.place.result c.place-in-loop-d.result (p - d) (p + d) (omega arith)
    (omega (arith, c.requires.0.m_fits.1)) at.invariant
    c.place.ensures.at (left_near sh.n p here d (omega (arith, c.requires.1)))
    c.place-in-loop-d.ensures.at (right_near sh.n p here d (omega (arith, c.requires.2)))
