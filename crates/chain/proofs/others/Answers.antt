-- `others`: the top pair first, then the heights below it.
use mathlib.Core.Path.{refl, ◌∙◌}
use Prim.Native.Nat.{◌+◌, ◌-◌}
use Rattle.shape.specs.Place.{byte}
use Rattle.chain.specs.Chain.{two}
use Rattle.chain.proofs.Sums.{sums_none, sums_top, two_at}
use Rattle.chain.proofs.others.Goals as goal

pub returns : goal.returns
returns g c =
    let sh = c.args.wk.shape in
    let xs = c.args.s.now in
    let p = c.args.wk.p in
    let from = c.args.from in
    let k = c.args.wk.walks in record {
      whole = c.below.ensures.whole;
      at = λ t h.
          let X = byte sh xs (from + t) in
          let v = two sh.n X p (sh.m - 1) in
          sums_top sh.m sh.n X p k.good.m_fits.0
          (rw k.top_is at (c.below.ensures.ran t v h
          (c.both-acc.ensures.at t h ∙ two_at sh xs p (sh.m - 1) from t k.x_is.at refl k.y_is.at refl ∙ sums_none (two sh.n X p) v)));
    }
