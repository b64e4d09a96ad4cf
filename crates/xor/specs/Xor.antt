-- XOR, AND XOR SUMS. Definitions only.
use Rattle.std.specs.Prelude.{ℕ, zero, suc}
use Rattle.std.specs.Int.Bits.{bit_xor}

infixl 65 ◌⊕◌
-- a XOR b, bit by bit
unfoldable pub ◌⊕◌ : ℕ → ℕ → ℕ
a ⊕ b = bit_xor a b

-- f 1 XOR f 2 XOR .. XOR f k
unfoldable pub xors : ℕ → (ℕ → ℕ) → ℕ
xors zero f = 0
xors (suc k) f = xors k f ⊕ f (suc k)
