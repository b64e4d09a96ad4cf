-- For loops that store to index i at turn i, going up: after i turns the list has `f t` at each t below i, and what it had elsewhere.
use mathlib.Core.Path.{◌≡◌, refl, ◌∙◌}
use mathlib.Core.List.{List}
use Prim.Native.Nat.{ℕ, ◌+◌, ◌≤◌, ◌<◌}
use native.Mathlib.Omega.{arith}
use borrow.Author.Count.{below_more}
use lib.ListN.{length, get_or, set, length-set}
use lib.Seq.{get_or-set_same, get_or-set_other}
use Rattle.block.specs.Block.{Block}

pub record Upto (f : ℕ → ℕ) (xs ys : List ℕ) (i : ℕ) : Type 0 where
  pub long : length ys ≡ length xs
  pub at : (t : ℕ) → t < i → get_or ys t 0 ≡ f t
  pub rest : (t : ℕ) → i ≤ t → get_or ys t 0 ≡ get_or xs t 0

pub upto_none : (f : ℕ → ℕ) (xs : List ℕ) → Upto f xs xs 0
upto_none f xs = record { long = refl; at = λ t l. absurd (omega arith); rest = λ t l. refl }

pub upto_more : {f : ℕ → ℕ} {xs ys : List ℕ} {i : ℕ} → Upto f xs ys i → (v : ℕ) → v ≡ f i → i < length ys → Upto f xs (set ys i v) (i + 1)
upto_more {f} {xs} {ys} {i} u v e lt = record {
  long = length-set ys i v ∙ u.long;
  at = below_more (λ t. get_or (set ys i v) t 0 ≡ f t) i (λ t l. get_or-set_other ys i t v 0 (λ q. omega arith) ∙ u.at t l) (get_or-set_same ys i v 0 lt ∙ e);
  rest = λ t l. get_or-set_other ys i t v 0 (λ q. omega arith) ∙ u.rest t (omega arith);
}

-- the loop is done: a block
pub upto_block : {f : ℕ → ℕ} {xs ys : List ℕ} {i len long : ℕ} → Upto f xs ys i → length xs ≡ long → len ≤ i → Block f len long ys
upto_block u whole le = record { whole = u.long ∙ whole; at = λ t l. u.at t (omega arith) }
