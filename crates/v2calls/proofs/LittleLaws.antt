-- Laws of the numbers of a call file: what `from_le_bytes` reads of four bytes and of eight is the number that they are.
use mathlib.Core.Path.{◌≡◌}
use mathlib.Core.List.{List}
use Prim.Native.Nat.{ℕ, ◌+◌, ◌*◌, ◌<◌}
use native.Mathlib.Omega.{arith}
use lib.ListN.{get_or}
use Rattle.std.specs.Int.{w32, w64, from_le_bytes}
use Rattle.v2calls.specs.Little.{two, four, eight}

zero_add : (t : ℕ) → 0 + t ≡ t
zero_add t = omega arith

four_on : (i t : ℕ) → i + 4 + t ≡ i + (4 + t)
four_on i t = omega arith

-- four bytes from k on that are those from i on
four_bytes : (bs xs : List ℕ) (k i : ℕ) → ((t : ℕ) → t < 4 → get_or bs (k + t) 0 ≡ get_or xs (i + t) 0)
    → get_or bs k 0 + get_or bs (k + 1) 0 * 256 + get_or bs (k + 2) 0 * 65536 + get_or bs (k + 3) 0 * 16777216 ≡ four xs i
unfolding two four
four_bytes bs xs k i p =
    let k0 : k + 0 ≡ k = omega arith in
    let i0 : i + 0 ≡ i = omega arith in
    let i3 : i + 2 + 1 ≡ i + 3 = omega arith in
    let first : get_or bs k 0 ≡ get_or xs i 0 = rw (k0, i0) at (p 0 (omega arith)) in
    rw i3 (omega (arith, first, p 1 (omega arith), p 2 (omega arith), p 3 (omega arith)))

pub four_read : (bs xs : List ℕ) (i : ℕ) → ((t : ℕ) → t < 4 → get_or bs t 0 ≡ get_or xs (i + t) 0) → from_le_bytes w32 bs ≡ four xs i
four_read bs xs i p = four_bytes bs xs 0 i (λ t h. rw (zero_add t) (p t h))

halves : (a b c d e f g h : ℕ) (xs : List ℕ) (i : ℕ) → a + b * 256 + c * 65536 + d * 16777216 ≡ four xs i
    → e + f * 256 + g * 65536 + h * 16777216 ≡ four xs (i + 4)
    → a + b * 256 + c * 65536 + d * 16777216 + e * 4294967296 + f * 1099511627776 + g * 281474976710656 + h * 72057594037927936
    ≡ eight xs i
unfolding eight
halves a b c d e f g h xs i low high = omega arith

pub eight_read : (bs xs : List ℕ) (i : ℕ) → ((t : ℕ) → t < 8 → get_or bs t 0 ≡ get_or xs (i + t) 0) → from_le_bytes w64 bs ≡ eight xs i
eight_read bs xs i p =
    let low = four_bytes bs xs 0 i (λ t h. rw (zero_add t) (p t (omega arith))) in
    let high = four_bytes bs xs 4 (i + 4) (λ t h. rw (four_on i t) (p (4 + t) (omega arith))) in
    halves _ _ _ _ _ _ _ _ xs i low high
