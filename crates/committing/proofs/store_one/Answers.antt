-- `store_one`: below m the symbol is first's, from m on second's.
use native.Mathlib.Omega.{arith}
use Rattle.committing.proofs.CommittingLaws.{first_room, second_room, first_lost, second_lost, stored_first, stored_second}
use Rattle.committing.proofs.store_one.Goals as goal

pub store_staged-requires : goal.store_staged-requires
store_staged-requires c =
    let (r, led, hk) = c.requires in
    (r.good, r.whole, omega arith, first_lost _ led _ hk, first_room _ _ _ r _ (omega arith))

pub overflow_sub-m-else-k-m-2 : goal.overflow_sub-m-else-k-m-2
overflow_sub-m-else-k-m-2 c =
    let (r, led, hk) = c.requires in
    omega (arith, (second_lost _ led _ hk (omega arith)).1)

pub store_staged-requires-else-k-m : goal.store_staged-requires-else-k-m
store_staged-requires-else-k-m c =
    let (r, led, hk) = c.requires in
    let (lost, few) = second_lost _ led _ hk (omega arith) in
    (r.good, r.whole, omega arith, lost, second_room _ _ _ r _ (omega arith))

pub returns-then-k-m : goal.returns-then-k-m
returns-then-k-m c = stored_first _ _ _ _ _ (omega arith) c.store_staged.ensures

pub returns-else-k-m : goal.returns-else-k-m
returns-else-k-m c = stored_second _ _ _ _ _ (omega arith) c.store_staged-else-k-m.ensures
