-- Laws of ⊕. To cite: `simp ⊕_laws` decides an equation between XORs; ⊕_eq and ⊕_same turn "the XOR is 0" into an equation and back.
use mathlib.Core.Path.{◌≡◌, refl, sym, ap, ap₂, ◌∙◌}
use Prim.Native.Nat.{ℕ, zero, suc, ◌+◌, ◌*◌, ◌/◌, ◌%◌, ◌<◌}
use native.Mathlib.Nat.{mod-lt}
use native.Mathlib.Omega.{arith}
use lib.Arith.{bin_ind, digits_mod}
use lib.Bits.{bit_xor, differ, xor_step, xor_shr, xor_comm, xor_self, xor_zero_r, xor_lt}
use Rattle.xor.specs.Xor.{◌⊕◌}

pub ⊕_comm : (a b : ℕ) → a ⊕ b ≡ b ⊕ a
unfolding ◌⊕◌
⊕_comm a b = xor_comm a b

pub ⊕_self : (a : ℕ) → a ⊕ a ≡ 0
unfolding ◌⊕◌
⊕_self a = xor_self a

pub ⊕_zero_l : (a : ℕ) → 0 ⊕ a ≡ a
unfolding ◌⊕◌
⊕_zero_l a = refl

pub ⊕_zero_r : (a : ℕ) → a ⊕ 0 ≡ a
unfolding ◌⊕◌
⊕_zero_r a = xor_zero_r a

-- bytes stay bytes
pub ⊕_lt : (a b : ℕ) → a < 256 → b < 256 → a ⊕ b < 256
unfolding ◌⊕◌
⊕_lt a b ha hb = xor_lt 8 a b ha hb

-- ---- associative: digit by digit

differ_lt : (x y : ℕ) → x < 2 → y < 2 → differ x y < 2
differ_lt zero y hx hy = hy
differ_lt (suc x) zero hx hy = hx
differ_lt (suc x) (suc y) hx hy = differ_lt x y (omega arith) (omega arith)

differ_assoc : (x y z : ℕ) → x < 2 → y < 2 → z < 2 → differ (differ x y) z ≡ differ x (differ y z)
differ_assoc zero y z hx hy hz = refl
differ_assoc (suc zero) zero z hx hy hz = refl
differ_assoc (suc zero) (suc zero) zero hx hy hz = refl
differ_assoc (suc zero) (suc zero) (suc zero) hx hy hz = refl
differ_assoc (suc zero) (suc zero) (suc (suc z)) hx hy hz = absurd (omega arith)
differ_assoc (suc zero) (suc (suc y)) z hx hy hz = absurd (omega arith)
differ_assoc (suc (suc x)) y z hx hy hz = absurd (omega arith)

digit : (a : ℕ) → a % 2 < 2
digit a = mod-lt a (omega arith)

xor_odd : (a b : ℕ) → bit_xor a b % 2 ≡ differ (a % 2) (b % 2)
xor_odd a b = ap (λ (x : ℕ). x % 2) (xor_step a b) ∙ digits_mod (bit_xor (a / 2) (b / 2)) (differ_lt (a % 2) (b % 2) (digit a) (digit b))

join : {r r' c c' : ℕ} → r ≡ r' → c ≡ c' → r * 2 + c ≡ r' * 2 + c'
join p q = ap₂ (λ (x y : ℕ). x * 2 + y) p q

xor_assoc : (a b c : ℕ) → bit_xor (bit_xor a b) c ≡ bit_xor a (bit_xor b c)
xor_assoc a =
    bin_ind (λ (n : ℕ). (b c : ℕ) → bit_xor (bit_xor n b) c ≡ bit_xor n (bit_xor b c)) (λ b c. refl)
    (λ n ih b c.
    xor_step (bit_xor n b) c
    ∙ join (ap (λ (x : ℕ). bit_xor x (c / 2)) (xor_shr n b 1)) (ap (λ (x : ℕ). differ x (c % 2)) (xor_odd n b))
    ∙ join (ih (b / 2) (c / 2)) (differ_assoc (n % 2) (b % 2) (c % 2) (digit n) (digit b) (digit c))
    ∙ sym
    (join (ap (bit_xor (n / 2)) (xor_shr b c 1)) (ap (differ (n % 2)) (xor_odd b c)))
    ∙ sym (xor_step n (bit_xor b c)))
    a

pub ⊕_assoc : (a b c : ℕ) → a ⊕ b ⊕ c ≡ a ⊕ (b ⊕ c)
unfolding ◌⊕◌
⊕_assoc a b c = xor_assoc a b c

pub ⊕_left_comm : (a b c : ℕ) → a ⊕ (b ⊕ c) ≡ b ⊕ (a ⊕ c)
⊕_left_comm a b c = rw (← ⊕_assoc a b c, ← ⊕_assoc b a c, ⊕_comm a b)

pub ⊕_cancel : (a b : ℕ) → a ⊕ (a ⊕ b) ≡ b
⊕_cancel a b = rw (← ⊕_assoc a a b, ⊕_self, ⊕_zero_l)

pub ruleset ⊕_laws = (⊕_assoc, ⊕_comm, ⊕_left_comm, ⊕_self, ⊕_cancel, ⊕_zero_l, ⊕_zero_r)

-- ---- equal, or the XOR is 0

pub ⊕_eq : (a b : ℕ) → a ⊕ b ≡ 0 → a ≡ b
⊕_eq a b e = sym (⊕_cancel b a) ∙ ap (λ (x : ℕ). b ⊕ x) (⊕_comm b a ∙ e) ∙ ⊕_zero_r b

pub ⊕_same : (a b : ℕ) → a ≡ b → a ⊕ b ≡ 0
⊕_same a b e = ap (λ (x : ℕ). x ⊕ b) e ∙ ⊕_self b

-- what is XORed on both sides goes
pub ⊕_off : (a b c : ℕ) → a ⊕ c ≡ b ⊕ c → a ≡ b
⊕_off a b c e = sym (again a) ∙ ap (λ (x : ℕ). x ⊕ c) e ∙ again b
  where
    again : (x : ℕ) → x ⊕ c ⊕ c ≡ x
    again x = simp ⊕_laws
