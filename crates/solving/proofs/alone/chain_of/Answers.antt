use Prim.Native.Nat.{ℕ, ◌<◌}
use native.Mathlib.Omega.{arith}
use mathlib.Core.Path.{subst}
use Rattle.shape.specs.Placed.{Stepped}
use Rattle.solving.specs.Outer.{column_of, chain_of}
use Rattle.solving.proofs.SideLaws.{of_first, of_second}
use Rattle.solving.proofs.alone.chain_of.Goals as goal

-- `chain_of`.
pub below-requires : goal.below-requires
unfolding column_of
below-requires c =
    let a = c.args in
    let (good, column, high) = c.requires in
    (subst (λ (i : ℕ). column_of a.x i < a.x.shape.n) c.if-side-eq0.true column, omega (arith, good.n_fits.0, good.m_fits.0), good.n_fits.1)

pub returns-then-side-eq0 : goal.returns-then-side-eq0
unfolding chain_of
returns-then-side-eq0 c =
    let a = c.args in
    of_first (λ (i : ℕ). Stepped a.x.shape.n (chain_of a.x i a.d) c.below.result) a.side c.if-side-eq0.true c.below.ensures

pub above-requires : goal.above-requires
unfolding column_of
above-requires c =
    let a = c.args in
    let (good, column, high) = c.requires in
    (of_second (λ (i : ℕ). column_of a.x i < a.x.shape.n → a.x.second < a.x.shape.n) a.side (λ e. omega arith) (λ i h. h) column, omega (arith, good.n_fits.0, good.m_fits.0), good.n_fits.1)

pub returns : goal.returns
unfolding chain_of
returns c =
    let a = c.args in
    of_second (λ (i : ℕ). Stepped a.x.shape.n (chain_of a.x i a.d) c.above.result) a.side (λ e. omega arith) (λ i. c.above.ensures)
