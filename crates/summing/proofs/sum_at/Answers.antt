use mathlib.Core.Path.{◌≡◌, refl}
use Prim.Native.Nat.{◌+◌, ◌*◌}
use native.Mathlib.Omega.{arith}
use lib.ListN.{get_or}
use Rattle.xor.specs.Xor.{◌⊕◌}
use Rattle.summing.specs.Sums.{part_of, start_of, summed}
use Rattle.summing.proofs.SumsLaws.{start_at, more_at}
use Rattle.summing.proofs.sum_at.Given.{Over}
use Rattle.summing.proofs.sum_at.Goals as goal
use Rattle.summing.proofs.sum_at.Goals.{Joined-x, in-Stripe, in-Buffer}

-- the slice that was picked, and where the symbol starts in it
picked : (g : Over) (c : Joined-x g) → (c.match-x.b.0.now ≡ part_of c.args.s.now c.args.out.now c.args.x.b) × (c.match-x.b.1 ≡ start_of c.args.x.b)
picked g c = elim c.match-x.branch [ in-Stripe w ↦ rw (w.b-is, w.in-Stripe.is) (refl, refl) | in-Buffer w ↦ rw (w.b-is, w.in-Buffer.is) (refl, refl) ]

pub loop-i-init : goal.loop-i-init
loop-i-init g c =
    let a = c.args in
    let x = a.x in
    let p = picked g (goal.at.loop-i-init g c).Joined-x in
    record {
      whole = c.both-acc.ensures.whole;
      at = λ k h. start_at a.s.now (part_of a.s.now a.out.now x.b) a.list.now x.a (start_of x.b) a.from k (rw (p.0, p.1) at (c.both-acc.ensures.at k h));
    }

pub loop-i-preserved : goal.loop-i-preserved
loop-i-preserved g c =
    let at = c.loop-i in
    let a = c.args in
    let x = a.x in
    record {
      whole = c.pair.ensures.whole;
      at = λ k h.
          more_at a.s.now a.list.now a.from k at.i
          (get_or a.s.now (x.a + (a.from + k)) 0 ⊕ get_or (part_of a.s.now a.out.now x.b) (start_of x.b + (a.from + k)) 0) (at.invariant.at k h) (c.pair.ensures.at k h);
    }

pub returns : goal.returns
unfolding summed
returns g c =
    let at = c.loop-i in
    let e : 2 * at.i ≡ c.args.x.count = omega (arith, c.requires.fits.even) in
    rw e at at.invariant
