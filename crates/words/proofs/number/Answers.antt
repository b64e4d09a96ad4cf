use native.Mathlib.Omega.{arith}
use Rattle.words.proofs.WordsLaws.{too_large, next, all_read}
use Rattle.words.proofs.number.Goals as goal

pub returns-then-number-ge-LIMIT : goal.returns-then-number-ge-LIMIT
returns-then-number-ge-LIMIT c = too_large _ _ _ c.loop-byte.invariant (omega arith) (omega arith)

pub loop-byte-preserved : goal.loop-byte-preserved
loop-byte-preserved c = next _ _ _ c.loop-byte.invariant (omega arith) _ c.from-digit.ensures (omega arith) (omega arith) (omega arith)

pub returns : goal.returns
returns c = all_read _ _ _ c.loop-byte.invariant (omega arith)
