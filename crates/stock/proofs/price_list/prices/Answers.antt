-- `prices`: a shape that is accepted is good, so its figures fit; one that is not goes with zeros.
use native.Mathlib.Omega.{arith}
use Rattle.std.proofs.lemmas.Result.{err_from_is_err_and}
use Rattle.shape.specs.Good.{Good}
use Rattle.stock.specs.Prices.{encode_price, one_price, two_price}
use Rattle.shape.proofs.Asked.{done_good}
use Rattle.answer.proofs.OutcomeLaws.{outcome_refused, outcome_given}
use Rattle.stock.proofs.price_list.prices.Goals as goal
use Rattle.stock.proofs.price_list.prices.Goals.{In_ok-accept}

good : (c : In_ok-accept) → Good c.args.shape
good c = done_good _ _ c.accept.ensures c.in_ok-accept.was

pub returns-in_err-accept : goal.returns-in_err-accept
returns-in_err-accept c =
    let p = err_from_is_err_and c.from_residual.result c.from_residual.ensures.1 in
    rw (p.1, p.2) (outcome_refused _ _ _ c.in_err-accept.ensures)

pub making-requires : goal.making-requires
making-requires c = let g = good c in (g, omega (arith, g.n_fits.1))

pub making-requires-2 : goal.making-requires-2
making-requires-2 c = let g = good (goal.at.making-requires-2 c).In_ok-accept in (g, omega (arith, g.m_fits.1))

pub making-requires-3 : goal.making-requires-3
making-requires-3 c = let g = good (goal.at.making-requires-3 c).In_ok-accept in (g, omega (arith, g.m_fits.1))

pub reading-requires : goal.reading-requires
reading-requires c = good (goal.at.reading-requires c).In_ok-accept

pub returns : goal.returns
unfolding encode_price one_price two_price
returns c = outcome_given _ _ c.in_ok-accept.ensures cc
