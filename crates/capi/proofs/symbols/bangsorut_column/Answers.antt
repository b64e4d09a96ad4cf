-- `bangsorut_column` tells where the part lies that column hands out.
use native.Mathlib.Omega.{arith}
use Rattle.capi.proofs.LiesLaws.{fits, column_whole, column_lies}
use Rattle.capi.proofs.symbols.bangsorut_column.Goals as goal

pub overflow_mul-part : goal.overflow_mul-part
overflow_mul-part c = omega (arith, fits _ _ _ (column_whole _ _ _ _ c.column-handed.ensures.read))

pub returns : goal.returns
returns c = record { part = c.column-handed.result; is = c.column-handed.ensures; lies = column_lies _ _ _ _ c.column-handed.ensures }
