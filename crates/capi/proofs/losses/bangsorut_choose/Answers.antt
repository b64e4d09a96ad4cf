-- `bangsorut_choose` tells where the part lies that choose hands back.
use mathlib.Core.Path.{sym}
use native.Mathlib.Omega.{arith}
use Rattle.xor.proofs.TellsLaws.{told_no}
use Rattle.capi.proofs.LiesLaws.{fits, choose_whole, survives_lies}
use Rattle.capi.proofs.losses.bangsorut_choose.Goals as goal

pub overflow_mul-part : goal.overflow_mul-part
overflow_mul-part c = omega (arith, fits _ _ _ (choose_whole _ _ _ _ _ _ c.choose-handed.ensures.read))

pub returns-else-is_lost : goal.returns-else-is_lost
returns-else-is_lost c =
    let call = c.choose-handed in
    rw (sym c.named-lost.ensures) (record { part = call.result; is = call.ensures; lies = survives_lies _ _ _ _ _ _ call.ensures c.if-length-eq0.false (told_no c.is_lost.ensures c.if-is_lost.false) })
