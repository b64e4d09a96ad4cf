-- OUTER-CHAIN ORDER (document 01): what the lost columns are solved to, whether or not the survivors agree. Definitions only.
use Rattle.std.specs.Prelude.{◌≡◌, ◌⊎◌, cond, List, ℕ, ◌+◌, ◌-◌, ◌%◌, ◌<◌, length, eqb, ltb}
use Rattle.shape.specs.declared.Shape.{Shape}
use Rattle.shape.specs.Step.{left, right}
use Rattle.rule.specs.declared.Losses.{Losses}
use Rattle.rule.specs.declared.Losses.TheVariants.{None, One, Two}
use Rattle.rule.specs.Rule.{Grid, differs}
use Rattle.rule.specs.Losses.{Agrees}

-- how far it is to walk upward, modulo n, from column a to column b
unfoldable pub walk : ℕ → ℕ → ℕ → ℕ
walk n a b = (b + (n - a)) % n

-- "first is the one from which the other is reached by the shorter walk upward, modulo n. If both walks are n/2, the smaller number is first."
unfoldable pub first : ℕ → ℕ → ℕ → ℕ
first n a b = cond (ltb (walk n a b) (walk n b a)) a (cond (ltb (walk n b a) (walk n a b)) b (cond (ltb a b) a b))

unfoldable pub second : ℕ → ℕ → ℕ → ℕ
second n a b = cond (eqb (first n a b) a) b a

-- first, second and the walk from first up to second, of any losses: n is no column, and m is too far to walk
abbrev pub reading : ℕ → ℕ → Losses → ℕ × ℕ × ℕ
reading m n None = (n, n, m)
reading m n (One c) = (c, n, m)
reading m n (Two a b) = (first n a b, second n a b, walk n (first n a b) (second n a b))

-- the survivors: the grid X with 0 in the columns a and b
unfoldable pub without : ℕ → ℕ → Grid → Grid
without a b X d c = cond (eqb c a) 0 (cond (eqb c b) 0 (X d c))

-- "The first column's symbol of height d is solved from chain (first - d), the second's from chain (second + d)." "With one lost column, use
-- chain c-d." Parity has height 0 and is solved "from chain p itself". So chain p is used for some height d:
abbrev pub Used : ℕ → ℕ → Losses → ℕ → Type 0
Used m n None p = ⊥
Used m n (One c) p = (d : ℕ) × (d < m) × (p ≡ left n c d)
Used m n (Two a b) p = (d : ℕ) × (d < m) × ((p ≡ left n (first n a b) d) ⊎ (p ≡ right n (second n a b) d))

-- x is the stripe s with its lost columns solved: the survivors stand as they stood, and every chain that is used holds.
-- (That this is solving, height rising each time: `SolvedFrom`. That there is one such stripe: `OneOuter`, `SomeOuter`.)
pub record Outer (sh : Shape) (lost : Losses) (s x : List ℕ) : Type 0 where
  pub long : length x ≡ length s
  pub agrees : Agrees sh lost s x
  pub holds : (p t : ℕ) → Used sh.m sh.n lost p → t < sh.w → differs sh x p t ≡ 0
