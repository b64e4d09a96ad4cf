-- `replace`: the change is carried into the parities of both chains, and then the symbol is stored; these steps are a small write.
use native.Mathlib.Omega.{arith}
use Prim.Native.Nat.{◌-◌}
use Rattle.shape.specs.Place.{height}
use Rattle.writing.specs.Write.{write_table}
use Rattle.storing.proofs.StruckOutcome.{struck_passed}
use Rattle.writing.proofs.CarriedLaws.{steps_written}
use Rattle.writing.proofs.replace.Goals as goal

pub left-left-requires : goal.left-left-requires
unfolding height
left-left-requires c = (c.requires.0, omega arith, omega arith)

pub right-right-requires : goal.right-right-requires
unfolding height
right-right-requires c = (c.requires.0, omega arith, omega arith)

pub carry-requires : goal.carry-requires
unfolding height
carry-requires c = let p = c.requires in
    (p.0, p.1, omega arith, omega arith, omega arith, omega arith, p.4)

pub carry-requires-2 : goal.carry-requires-2
unfolding height
carry-requires-2 c = let p = c.requires in
    (p.0, omega arith, omega arith, omega arith, omega arith, omega arith, p.4)

pub store-requires : goal.store-requires
unfolding height
store-requires c = let p = c.requires in
    (p.0, omega arith, omega arith, omega arith, p.4)

pub returns : goal.returns
unfolding height write_table
returns c =
    let a = c.args in
    steps_written a.shape c.requires.0 a.stripe.now c.requires.1 a.column c.requires.2 c.height-height.result (omega arith) (omega arith) a.symbol.now _ _ _
    (rw c.left-left.ensures.is at c.carry.ensures) (rw c.right-right.ensures.is at c.carry-2.ensures) c.store.ensures
    a.row c.height-height.ensures (struck_passed a.shape a.stripe.now (a.shape.m - 1) a.column a.row a.symbol.now c.requires.0 c.requires.1 c.requires.2 c.requires.3 c.requires.4)
