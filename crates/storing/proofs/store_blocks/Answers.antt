use mathlib.Core.Path.{refl}
use Prim.Native.Nat.{◌+◌}
use native.Mathlib.Omega.{arith}
use lib.ListN.{get_or}
use Rattle.xor.proofs.Span.{span_same, span_then}
use Rattle.storing.proofs.store_blocks.Goals as goal

pub loop-t-preserved : goal.loop-t-preserved
loop-t-preserved c =
    let at = c.loop-t in
    let x = c.args.symbol.now in
    (omega arith, omega arith, span_then (λ k. get_or x k 0) at.invariant.2 (span_same (λ k. get_or x (at.t + k) 0) c.put.ensures refl c.get-acc.ensures.at))
