-- WHAT A LOST SYMBOL IS SOLVED FROM: its chain without the symbols of one side at two heights. Definitions only.
use Rattle.std.specs.Prelude.{◌≡◌, cond, List, ℕ, zero, suc, ◌+◌, ◌≤◌, ◌<◌, ltb, length, get_or}
use Rattle.xor.specs.Xor.{◌⊕◌}
use Rattle.shape.specs.declared.Shape.{Shape}
use Rattle.shape.specs.Good.{size}
use Rattle.shape.specs.Place.{byte}
use Rattle.shape.specs.Step.{left, right}
use Rattle.rule.specs.Rule.{Grid, chain}
use Rattle.summing.specs.declared.Lies.TheVariants.{Buffer}
use Rattle.summing.specs.declared.Sum.{Sum}
use Rattle.summing.specs.Sums.{summed, Fits}

-- the column of chain p at height d on a side: 0, where first's symbols are in the chains that solve them, is right; 1, where second's are, is left
unfoldable pub beside : ℕ → ℕ → ℕ → ℕ → ℕ
beside zero n p d = right n p d
beside (suc side) n p d = left n p d

-- the chain p of a grid without its symbol of height d on a side and that of height h on the side `aside`, the latter only if there is such a height
unfoldable pub besides : ℕ → ℕ → Grid → ℕ → ℕ → ℕ → ℕ → ℕ → ℕ
besides m n X p side d aside h = (chain m n X p ⊕ X d (beside side n p d)) ⊕ cond (ltb h m) (X h (beside aside n p h)) 0

-- the list and the sum x give that of every stripe, with the symbol at b of the buffer where the one of height h would be
pub record Sourced (sh : Shape) (p side d aside h b : ℕ) (list : List ℕ) (x : Sum) : Type 0 where
  pub fits : (s out : List ℕ) → length s ≡ size sh → (h < sh.m → (b + sh.w ≤ length out) × (b + sh.w ≤ 262144)) → Fits s out list x sh.w
  pub sum : (s out : List ℕ) (t : ℕ) → t < sh.w
      → summed s out list x t ≡ besides sh.m sh.n (byte sh s t) p side d aside h ⊕ cond (ltb h sh.m) (get_or out (b + t) 0) 0
  pub asks : ((c : ℕ) → x.b ≡ Buffer c → (h < sh.m) × (c ≡ b)) × (h < sh.m → x.b ≡ Buffer b)
