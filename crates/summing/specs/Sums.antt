-- SUMS OVER A LIST OF PLACES: what a symbol is put together from. Definitions only.
use Rattle.std.specs.Prelude.{◌≡◌, ◌⊎◌, List, ℕ, zero, suc, ◌+◌, ◌-◌, ◌%◌, ◌≤◌, ◌<◌, length, get_or}
use Rattle.xor.specs.Xor.{◌⊕◌}
use Rattle.xor.specs.Spanned.{Spanned}
use Rattle.summing.specs.declared.Lies.{Lies}
use Rattle.summing.specs.declared.Lies.TheVariants.{Stripe, Buffer}
use Rattle.summing.specs.declared.Sum.{Sum}

-- the XOR of the bytes that stand t after the first k places of the list
unfoldable pub flat : List ℕ → List ℕ → ℕ → ℕ → ℕ
flat s list t zero = 0
flat s list t (suc k) = flat s list t k ⊕ get_or s (get_or list k 0 + t) 0

-- the slice that a symbol lies in: the stripe s, or the buffer `out`
abbrev pub part_of : List ℕ → List ℕ → Lies → List ℕ
part_of s out (Stripe b) = s
part_of s out (Buffer b) = out

-- where it starts
abbrev pub start_of : Lies → ℕ
start_of (Stripe b) = b
start_of (Buffer b) = b

-- byte t of a sum: of the symbol of the stripe s at a, of the one that lies at b, which is in the buffer `out` if it was asked for, and of the list's
unfoldable pub summed : List ℕ → List ℕ → List ℕ → Sum → ℕ → ℕ
summed s out list x t = (get_or s (x.a + t) 0 ⊕ get_or (part_of s out x.b) (start_of x.b + t) 0) ⊕ flat s list t x.count

-- each of these symbols has `to` bytes before the end of the stripe or the buffer; the list's places come in pairs
pub record Fits (s out list : List ℕ) (x : Sum) (to : ℕ) : Type 0 where
  pub small : length s ≤ 65536
  pub long : length list ≡ 32
  pub few : x.count ≤ 30
  pub even : x.count % 2 ≡ 0
  pub each : (i : ℕ) → i < x.count → get_or list i 0 + to ≤ length s
  pub a_in : x.a + to ≤ length s
  pub b_in : start_of x.b + to ≤ length (part_of s out x.b)
  pub b_small : start_of x.b + to ≤ 262144

-- the w bytes at a and those at b do not meet, or are the same
abbrev pub Apart : ℕ → ℕ → ℕ → Type 0
Apart a b w = (a + w ≤ b) ⊎ ((b + w ≤ a) ⊎ (a ≡ b))

-- the symbol of w bytes at `at` of the buffer is apart from the one that was asked for, or stands where it stood
abbrev pub Clear : Sum → ℕ → ℕ → Type 0
Clear x at w = (b : ℕ) → x.b ≡ Buffer b → Apart at b w

-- out' is `out` with the bytes lo to hi - 1 of the symbol at `at` set to those of the sum
abbrev pub Summed : List ℕ → List ℕ → Sum → ℕ → ℕ → ℕ → List ℕ → List ℕ → Type 0
Summed s list x at lo hi out out' = Spanned (λ t. summed s out list x (lo + t)) out out' (at + lo) (hi - lo)
