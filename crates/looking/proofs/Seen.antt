-- For loops that gather with `|` whether anything is not 0: after k turns `any` is 0 just where the first k are.
use mathlib.Core.Path.{◌≡◌, refl}
use Prim.Native.Nat.{ℕ, ◌+◌, ◌<◌}
use native.Mathlib.Omega.{arith}
use borrow.Author.Count.{below_more}
use lib.Bits.{bit_or, or_add_and, and_le_l, and_le_r}

pub record Seen (f : ℕ → ℕ) (k any : ℕ) : Type 0 where
  pub clear : any ≡ 0 → (t : ℕ) → t < k → f t ≡ 0
  pub zero : ((t : ℕ) → t < k → f t ≡ 0) → any ≡ 0

pub seen_none : (f : ℕ → ℕ) → Seen f 0 0
seen_none f = record { clear = λ e t l. absurd (omega arith); zero = λ h. refl }

pub seen_more : {f : ℕ → ℕ} {k any : ℕ} → Seen f k any → Seen f (k + 1) (bit_or any (f k))
seen_more {f} {k} {any} s = record {
  clear = λ e. below_more (λ t. f t ≡ 0) k (s.clear (omega (arith, or_add_and any (f k), and_le_r any (f k)))) (omega (arith, or_add_and any (f k), and_le_l any (f k)));
  zero = λ h. omega (arith, or_add_and any (f k), h k (omega arith), s.zero (λ t l. h t (omega arith)));
}
