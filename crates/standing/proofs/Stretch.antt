-- One chain after another, for loops over a stretch of chains: where the next one is, and what then holds of all so far.
use mathlib.Core.Path.{◌≡◌, ap, ◌∙◌, subst}
use Prim.Native.Nat.{ℕ, ◌+◌, ◌%◌, ◌<◌}
use native.Mathlib.Nat.{mod-add-mod}
use native.Mathlib.Omega.{arith}
use native.Mathlib.Decide.{dec_lt}
use Rattle.shape.specs.Step.{right}

-- i up, and d up from there
pub right_on : (n c i d : ℕ) → right n (right n c i) d ≡ right n c (i + d)
unfolding right
right_on n c i d = let e : c + i + d ≡ c + (i + d) = omega arith in mod-add-mod (c + i) n d ∙ ap (λ (x : ℕ). x % n) e

-- what holds of those before i, and of i
pub so_far : (P : ℕ → Type 0) (i : ℕ) → ((j : ℕ) → j < i → P j) → P i → (j : ℕ) → j < i + 1 → P j
so_far P i before here j h = at (dec_lt j i)
  where
    at : Dec (j < i) → P j
    at (yes l) = before j l
    at (no l) = let e : i ≡ j = omega arith in subst P e here
