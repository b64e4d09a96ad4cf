-- Laws of Ways: the columns of a chain without a remainder, where it does not wrap, and where it does on one side.
-- To cite: left_near, left_far, right_near, right_far; ways_near, ways_none, ways_left, ways_right; step_of, what a run knows of each of its heights.
use mathlib.Core.Path.{◌≡◌}
use mathlib.Core.Logic.{⊎_elim}
use Prim.Native.Nat.{ℕ, ◌+◌, ◌-◌, ◌≤◌, ◌<◌}
use native.Mathlib.Omega.{arith}
use Rattle.shape.specs.declared.Shape.{Shape}
use Rattle.shape.specs.Good.{Good}
use Rattle.shape.specs.Step.{left, right}
use Rattle.walking.specs.Walk.{Ways}
use Rattle.shape.proofs.StepLaws.{left_lt, left_reach, right_lt, right_reach}
use Rattle.shape.proofs.GoodLaws.{good_room}

-- ---- left and right, on this side of the wrap and beyond it

module _ (n p : ℕ) (here : p < n) where
  pub left_near : (d : ℕ) → d ≤ p → p - d ≡ left n p d
  left_near d h =
      let l : left n p d < n = left_lt n p d here (omega arith) in ⊎_elim (λ u. omega arith) (λ u. omega arith) (left_reach n p d here (omega arith))

  pub left_far : (d : ℕ) → p < d → d < n → p + n - d ≡ left n p d
  left_far d h k = ⊎_elim (λ u. omega arith) (λ u. omega arith) (left_reach n p d here k)

  pub right_near : (d : ℕ) → p + d < n → p + d ≡ right n p d
  right_near d h = ⊎_elim (λ u. omega arith) (λ u. omega arith) (right_reach n p d here (omega arith))

  pub right_far : (d : ℕ) → n ≤ p + d → d < n → p + d - n ≡ right n p d
  right_far d h k =
      let l : right n p d < n = right_lt n p d here k in ⊎_elim (λ u. omega arith) (λ u. omega arith) (right_reach n p d here k)

-- ---- Ways, from height a up to below b

module _ (sh : Shape) (p : ℕ) (here : p < sh.n) where
  module _ (a b : ℕ) (low : 1 ≤ a) (order : a ≤ b) (high : b ≤ sh.m) where
    -- without a wrap
    pub ways_near : b ≤ p + 1 → p + b ≤ sh.n → Ways sh p p p 0 a b
    ways_near h k = record {
      here = here;
      low = low;
      order = order;
      high = high;
      since = omega arith;
      left_fits = λ d l u. omega arith;
      left_is = λ d l u. omega (arith, left_near sh.n p here d (omega arith));
      right_is = λ d l u. omega (arith, right_near sh.n p here d (omega arith));
    }

    -- where there is no height
    pub ways_none : (l r base : ℕ) → base ≤ a → b ≤ a → Ways sh p l r base a b
    ways_none l r base s none = record {
      here = here;
      low = low;
      order = order;
      high = high;
      since = s;
      left_fits = λ d l u. absurd (omega arith);
      left_is = λ d l u. absurd (omega arith);
      right_is = λ d l u. absurd (omega arith);
    }

  module _ (b : ℕ) (high : b ≤ sh.m) where
    -- beyond the wrap on the left: height p + 1 is in the last column
    pub ways_left : p + 1 ≤ b → p + b ≤ sh.n → Ways sh p (sh.n - 1) (p + p + 1) (p + 1) (p + 1) b
    ways_left order k = record {
      here = here;
      low = omega arith;
      order = order;
      high = high;
      since = omega arith;
      left_fits = λ d l u. omega arith;
      left_is = λ d l u. omega (arith, left_far sh.n p here d (omega arith) (omega arith));
      right_is = λ d l u. omega (arith, right_near sh.n p here d (omega arith));
    }

    -- beyond the wrap on the right: height n - p is in the first column
    pub ways_right : sh.n - p ≤ b → b ≤ p + 1 → Ways sh p (p - (sh.n - p)) 0 (sh.n - p) (sh.n - p) b
    ways_right order k = record {
      here = here;
      low = omega arith;
      order = order;
      high = high;
      since = omega arith;
      left_fits = λ d l u. omega arith;
      left_is = λ d l u. omega (arith, left_near sh.n p here d (omega arith));
      right_is = λ d l u. omega (arith, right_far sh.n p here d (omega arith) (omega arith));
    }

-- ---- one height of the way

-- d is a height of a good shape, and both columns of chain p at it are columns of the shape
pub record Step (sh : Shape) (p l r base d : ℕ) : Type 0 where
  pub low : 1 ≤ d
  pub high : d < sh.m
  pub since : base ≤ d
  pub left_fits : d - base ≤ l
  pub left_in : l - (d - base) < sh.n
  pub right_in : r + (d - base) < sh.n

pub step_of : {sh : Shape} {p l r base a b : ℕ} → Good sh → Ways sh p l r base a b → (d : ℕ) → a ≤ d → d < b → Step sh p l r base d
step_of {sh} {p} good w d h k =
    let top : d < sh.n = omega (arith, good_room sh good, w.high) in
    record {
      low = omega (arith, w.low);
      high = omega (arith, w.high);
      since = omega (arith, w.since);
      left_fits = w.left_fits d h k;
      left_in = omega (arith, w.left_is d h k, left_lt sh.n p d w.here top);
      right_in = omega (arith, w.right_is d h k, right_lt sh.n p d w.here top);
    }
