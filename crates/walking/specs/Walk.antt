-- THE WALK ALONG A CHAIN: where its symbols stand, without a remainder. Definitions only.
use Rattle.std.specs.Prelude.{◌≡◌, ℕ, ◌+◌, ◌-◌, ◌≤◌, ◌<◌}
use Rattle.shape.specs.declared.Shape.{Shape}
use Rattle.shape.specs.Good.{Good}
use Rattle.shape.specs.Step.{left, right}
use Rattle.shape.specs.Placed.{Placed}

-- from height a up to below b the columns of chain p are l - k and r + k, for the kth height from `base` on
pub record Ways (sh : Shape) (p l r base a b : ℕ) : Type 0 where
  pub here : p < sh.n
  pub low : 1 ≤ a
  pub order : a ≤ b
  pub high : b ≤ sh.m
  pub since : base ≤ a
  pub left_fits : (d : ℕ) → a ≤ d → d < b → d - base ≤ l
  pub left_is : (d : ℕ) → a ≤ d → d < b → l - (d - base) ≡ left sh.n p d
  pub right_is : (d : ℕ) → a ≤ d → d < b → r + (d - base) ≡ right sh.n p d

-- the walk of chain p of a good shape: up to below height `end` without a wrap, from there on with one; its top pair at x and y, its parity symbol
pub record Walks (sh : Shape) (p top l r end x y at : ℕ) : Type 0 where
  pub good : Good sh
  pub top_is : top ≡ sh.m - 1
  pub near : Ways sh p p p 0 1 end
  pub far : Ways sh p l r end end top
  pub x_is : Placed sh (sh.m - 1) (left sh.n p (sh.m - 1)) x
  pub y_is : Placed sh (sh.m - 1) (right sh.n p (sh.m - 1)) y
  pub at_is : Placed sh 0 p at
