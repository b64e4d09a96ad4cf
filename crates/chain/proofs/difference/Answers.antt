-- `difference`: the top pair and the parity symbol first, then the heights below them.
use mathlib.Core.Path.{refl, ap, ◌∙◌}
use Prim.Native.Nat.{ℕ, ◌+◌, ◌-◌}
use lib.ListN.{get_or}
use Rattle.xor.specs.Xor.{◌⊕◌}
use Rattle.shape.specs.Place.{byte}
use Rattle.chain.specs.Chain.{two}
use Rattle.chain.proofs.Sums.{sums_none, differs_top, two_at}
use Rattle.chain.proofs.difference.Goals as goal

pub returns : goal.returns
returns g c =
    let sh = c.args.wk.shape in
    let xs = c.args.s.now in
    let p = c.args.wk.p in
    let from = c.args.from in
    let k = c.args.wk.walks in record {
      whole = c.below.ensures.whole;
      at = λ t h.
          let X = byte sh xs (from + t) in
          let v = two sh.n X p (sh.m - 1) ⊕ get_or xs (c.args.wk.at + from + t) 0 in
          differs_top sh xs p from t k.good.m_fits.0 k.at_is.at refl
          (rw k.top_is at (c.below.ensures.ran t v h
          (c.add.ensures.at t h
          ∙ ap (λ (x : ℕ). x ⊕ get_or xs (c.args.wk.at + from + t) 0)
          (c.both-acc.ensures.at t h ∙ two_at sh xs p (sh.m - 1) from t k.x_is.at refl k.y_is.at refl) ∙ sums_none (two sh.n X p) v)));
    }
