-- `number`: what is read so far are digits and spells the number.
use Rattle.words.proofs.WordsLaws.{UnderWay}
use Rattle.words.proofs.number.Given as goal

abbrev pub invariant-loop-byte : goal.invariant-loop-byte
invariant-loop-byte l = UnderWay l.word l.byte-index l.number
