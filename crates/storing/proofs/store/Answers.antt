-- `store`: the whole blocks, then the rest after them, go to the symbol's place, which ends inside the stripe; no other symbol has a byte there.
use native.Mathlib.Omega.{arith}
use Prim.Native.Nat.{◌-◌, ◌%◌}
use lib.ListN.{length, get_or}
use Rattle.storing.proofs.SetLaws.{span_rest, rest_at, set_copied}
use Rattle.storing.proofs.store.Goals as goal

pub returns-then-whole-len : goal.returns-then-whole-len
returns-then-whole-len c =
    let x = c.args.symbol.now in
    let whole = length x - length x % 128 in
    let u = span_rest x whole (omega arith) (λ t. get_or x t 0) _ _ _ _ _ c.store_blocks.ensures c.copy.ensures (λ t l. rest_at x whole (omega arith) t) in
    set_copied _ _ _ _ _ _ c.requires.4 _ _ c.requires.2 c.place-at.ensures.at u

pub returns-else-whole-len : goal.returns-else-whole-len
returns-else-whole-len c =
    set_copied _ _ _ _ _ _ (omega arith) _ _ c.requires.2 c.place-at.ensures.at c.store_blocks.ensures
