-- THE SYMBOLS OF A CHAIN (document 01, the parity rule): which symbols a picture of chain p marks, and how. Definitions only.
use Rattle.std.specs.Prelude.{◌≡◌, ◌⊎◌, ℕ, zero, suc, ◌≤◌}
use Rattle.shape.specs.declared.Shape.{Shape}
use Rattle.shape.specs.Place.{height}
use Rattle.shape.specs.Step.{left, right}
use Rattle.chains.specs.declared.picture.Mark.{Mark}
use Rattle.chains.specs.declared.picture.Mark.TheVariants.{Parity, Information, Other}

-- "Chain p consists of the parity symbol of column p and, for every height d, the symbols of height d in columns p-d and p+d, counted modulo n."
-- Whether the symbol of row i in column c is one of them: heights are 1 to m-1, and the parity row has height 0.
pub data InChain (sh : Shape) (p i c : ℕ) : Type 0 where
  parity : height sh i ≡ 0 → c ≡ p → InChain sh p i c
  information : 1 ≤ height sh i → (c ≡ left sh.n p (height sh i)) ⊎ (c ≡ right sh.n p (height sh i)) → InChain sh p i c

-- the mark of a symbol of this height in its chain
abbrev pub by_height : ℕ → Mark
by_height zero = Parity
by_height (suc d) = Information (suc d)

-- the mark of the symbol of row i in column c in a picture of chain p: a symbol of the chain is marked by its height, and no other is marked
pub record Marked (sh : Shape) (p i c : ℕ) (mark : Mark) : Type 0 where
  pub chain : InChain sh p i c → mark ≡ by_height (height sh i)
  pub other : ¬ InChain sh p i c → mark ≡ Other
