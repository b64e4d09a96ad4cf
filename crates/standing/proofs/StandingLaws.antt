-- Laws of a chain as it stands: a block of it that obeys the rule, and one part after another.
use mathlib.Core.Path.{◌≡◌}
use mathlib.Core.Bool.{Bool}
use mathlib.Core.List.{List}
use Prim.Native.Nat.{ℕ, ◌+◌}
use Rattle.xor.specs.Tells.{Tells}
use Rattle.looking.specs.Looking.{Same}
use Rattle.block.specs.Block.{Block}
use Rattle.shape.specs.declared.Shape.{Shape}
use Rattle.shape.specs.Place.{place}
use Rattle.sourcing.proofs.FlatLaws.{symbol_at}
use Rattle.matching.proofs.MatchingLaws.{same_level, level_same}
use Rattle.standing.specs.Standing.{others_at, parity_at, Even}

module _ (sh : Shape) (s : List ℕ) (p at from len : ℕ) {long : ℕ} (acc : List ℕ) (e : at ≡ place sh 0 p 0) (b : Block (λ t. others_at sh s p (from + t)) len long acc) where
  -- a block of the others beside the parity symbol
  pub even_block : (r : Bool) → Tells (Same acc s (at + from) len) r → Tells (Even sh s p from (from + len)) r
  even_block r tells = record {
    yes = λ k. same_level (others_at sh s p) (parity_at sh s p) s at (λ t. symbol_at sh s 0 p t e) from len acc b (tells.yes k);
    no = λ k. tells.no (level_same (others_at sh s p) (parity_at sh s p) s at (λ t. symbol_at sh s 0 p t e) from len acc b k);
  }
