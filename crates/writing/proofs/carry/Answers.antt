-- `carry`: the change goes into the parity symbol, which has height 0, and so is apart from the symbol that is about to change.
use mathlib.Core.Path.{refl}
use mathlib.Core.Logic.{◌⊎◌, inl, inr, ⊎_elim}
use Prim.Native.Nat.{◌+◌, ◌-◌, ◌%◌, ◌≤◌}
use native.Mathlib.Omega.{arith}
use lib.ListN.{length}
use Rattle.shape.proofs.GoodLaws.{good_m, good_w}
use Rattle.storing.proofs.SetLaws.{rest_long}
use Rattle.storing.proofs.Symbols.{symbol_apart}
use Rattle.writing.proofs.Changed.{change_rest, carried_changed}
use Rattle.writing.proofs.carry.Goals as goal
use Rattle.writing.proofs.carry.Goals.{After-place-from}

-- the two symbols are apart
apart : (c : After-place-from)
    → let w = length c.args.symbol.now in (c.place-parity.result + w ≤ c.place-from.result) ⊎ (c.place-from.result + w ≤ c.place-parity.result)
apart c =
    let a = c.args in
    let far = symbol_apart a.shape a.height a.column 0 a.chain c.requires.3 (good_m _ c.requires.0) (good_w _ c.requires.0) (inl (λ e. omega arith)) in
    rw (c.place-from.ensures.at, c.place-parity.ensures.at, c.requires.6) far

pub change_blocks-requires : goal.change_blocks-requires
change_blocks-requires c =
    (omega arith, omega arith, omega arith, omega arith, ⊎_elim (λ l. inl (omega arith)) (λ l. inr (omega arith)) (apart (goal.at.change_blocks-requires c).After-place-from))

pub change-requires : goal.change-requires
change-requires c =
    let x = c.args.symbol.now in
    let whole = length x - length x % 128 in
    let rest = rest_long x whole (omega arith) in
    let long = c.change_blocks.ensures.long in
    (omega (arith, rest, long), omega (arith, rest, long), ⊎_elim (λ l. inl (omega (arith, rest))) (λ l. inr (omega (arith, rest))) (apart (goal.at.change-requires c).After-place-from))

pub returns-then-whole-len : goal.returns-then-whole-len
returns-then-whole-len c =
    let u = change_rest _ c.args.symbol.now _ _ _ (apart (goal.at.returns-then-whole-len c).After-place-from) _ _ _ (omega arith) refl c.change_blocks.ensures c.change.ensures in
    carried_changed _ _ _ _ _ _ c.requires.6 _ _ _ _ (good_m _ c.requires.0) c.place-parity.ensures.at c.place-from.ensures.at u

pub returns-else-whole-len : goal.returns-else-whole-len
returns-else-whole-len c =
    carried_changed _ _ _ _ _ _ (omega (arith, c.requires.6)) _ _ _ _ (good_m _ c.requires.0) c.place-parity.ensures.at c.place-from.ensures.at c.change_blocks.ensures
