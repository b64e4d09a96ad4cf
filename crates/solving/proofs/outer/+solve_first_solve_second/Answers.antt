-- The outer-chain order: what a symbol asks for is solved before its own chain is added to it.
use mathlib.Core.Path.{ap}
use Prim.Native.Nat.{ℕ, ◌+◌}
use native.Mathlib.Omega.{arith}
use Rattle.solving.specs.Outer.{column_of, base_of, chain_of}
use Rattle.solving.proofs.StoresLaws.{ready_room, ready_next}
use Rattle.solving.proofs.CallsLaws.{called_alone, called_after, left_alone, left_after}
use Rattle.solving.proofs.outer.+solve_first_solve_second.Goals as goal

pub solve_first-below-p-requires : goal.solve_first-below-p-requires
unfolding column_of
solve_first-below-p-requires t c = let r = c.requires.0 in (r.column, omega (arith, r.high, r.good.n_fits.0, r.good.m_fits.0), r.good.n_fits.1)

pub solve_first-overflow_add-at : goal.solve_first-overflow_add-at
unfolding base_of
solve_first-overflow_add-at t c =
    let a = c.args in
    omega (arith, (ready_room a.x 0 a.d a.s.now a.out.now c.requires.0).1, c.place.ensures.at)

pub solve_first-overflow_add-b : goal.solve_first-overflow_add-b
unfolding base_of
solve_first-overflow_add-b t c =
    let a = c.args in
    let n = ready_next a.x 0 a.d a.s.now a.out.now c.requires.0 (omega arith) in
    omega (arith, (ready_room a.x 1 (a.d + a.x.walk) a.s.now a.out.now n).1, c.place-then-h-sh.ensures.at)

pub solve_first-own-requires : goal.solve_first-own-requires
unfolding base_of
solve_first-own-requires t c =
    let x = c.args.x in
    called_after x 0 c.args.d _ _ c.requires.0 _ _ (ap (λ (z : ℕ). base_of x 0 + z) c.place.ensures.at)
    _ _ _ c.requires.1 c.below-p.ensures.below (omega arith) c.solve_second.ensures.0 (ap (λ (z : ℕ). base_of x 1 + z) c.place-then-h-sh.ensures.at)

pub solve_first-own-requires-else-h-sh : goal.solve_first-own-requires-else-h-sh
unfolding base_of
solve_first-own-requires-else-h-sh t c =
    let x = c.args.x in
    called_alone x 0 c.args.d _ _ c.requires.0 _ _ (ap (λ (z : ℕ). base_of x 0 + z) c.place.ensures.at) _ _ c.requires.1 c.below-p.ensures.below (omega arith)

pub solve_first-returns-then-h-sh : goal.solve_first-returns-then-h-sh
unfolding base_of chain_of
solve_first-returns-then-h-sh t c =
    let x = c.args.x in
    left_after x 0 c.args.d _ _ c.requires.0 _ _ (ap (λ (z : ℕ). base_of x 0 + z) c.place.ensures.at)
    _ _ _ c.below-p.ensures.is (omega arith) (ap (λ (z : ℕ). base_of x 1 + z) c.place-then-h-sh.ensures.at) c.solve_second.ensures c.own.ensures

pub solve_first-returns-else-h-sh : goal.solve_first-returns-else-h-sh
unfolding base_of chain_of
solve_first-returns-else-h-sh t c =
    let x = c.args.x in
    left_alone x 0 c.args.d _ _ c.requires.0 _ _ (ap (λ (z : ℕ). base_of x 0 + z) c.place.ensures.at)
    _ _ c.below-p.ensures.is (omega arith) c.own-else-h-sh.ensures

pub solve_second-above-p-requires : goal.solve_second-above-p-requires
unfolding column_of
solve_second-above-p-requires t c = let r = c.requires.0 in (r.column, omega (arith, r.high, r.good.n_fits.0, r.good.m_fits.0), r.good.n_fits.1)

pub solve_second-overflow_add-at : goal.solve_second-overflow_add-at
unfolding base_of
solve_second-overflow_add-at t c =
    let a = c.args in
    omega (arith, (ready_room a.x 1 a.d a.s.now a.out.now c.requires.0).1, c.place.ensures.at)

pub solve_second-overflow_add-b : goal.solve_second-overflow_add-b
unfolding base_of
solve_second-overflow_add-b t c =
    let a = c.args in
    let n = ready_next a.x 1 a.d a.s.now a.out.now c.requires.0 (omega arith) in
    omega (arith, (ready_room a.x 0 (a.d + a.x.walk) a.s.now a.out.now n).1, c.place-then-h-sh.ensures.at)

pub solve_second-own-requires : goal.solve_second-own-requires
unfolding base_of
solve_second-own-requires t c =
    let x = c.args.x in
    called_after x 1 c.args.d _ _ c.requires.0 _ _ (ap (λ (z : ℕ). base_of x 1 + z) c.place.ensures.at)
    _ _ _ c.requires.1 c.above-p.ensures.below (omega arith) c.solve_first.ensures.0 (ap (λ (z : ℕ). base_of x 0 + z) c.place-then-h-sh.ensures.at)

pub solve_second-own-requires-else-h-sh : goal.solve_second-own-requires-else-h-sh
unfolding base_of
solve_second-own-requires-else-h-sh t c =
    let x = c.args.x in
    called_alone x 1 c.args.d _ _ c.requires.0 _ _ (ap (λ (z : ℕ). base_of x 1 + z) c.place.ensures.at) _ _ c.requires.1 c.above-p.ensures.below (omega arith)

pub solve_second-returns-then-h-sh : goal.solve_second-returns-then-h-sh
unfolding base_of chain_of
solve_second-returns-then-h-sh t c =
    let x = c.args.x in
    left_after x 1 c.args.d _ _ c.requires.0 _ _ (ap (λ (z : ℕ). base_of x 1 + z) c.place.ensures.at)
    _ _ _ c.above-p.ensures.is (omega arith) (ap (λ (z : ℕ). base_of x 0 + z) c.place-then-h-sh.ensures.at) c.solve_first.ensures c.own.ensures

pub solve_second-returns-else-h-sh : goal.solve_second-returns-else-h-sh
unfolding base_of chain_of
solve_second-returns-else-h-sh t c =
    let x = c.args.x in
    left_alone x 1 c.args.d _ _ c.requires.0 _ _ (ap (λ (z : ℕ). base_of x 1 + z) c.place.ensures.at)
    _ _ c.above-p.ensures.is (omega arith) c.own-else-h-sh.ensures
