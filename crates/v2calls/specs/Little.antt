-- NUMBERS OF A CALL FILE (the page on call files): "Every number is little-endian." Definitions only.
use Rattle.std.specs.Prelude.{List, ℕ, ◌+◌, ◌*◌, get_or}

-- the number of two bytes from `at` on, of four, and of eight: the lower half stands first
unfoldable pub two : List ℕ → ℕ → ℕ
two xs at = get_or xs at 0 + 256 * get_or xs (at + 1) 0

unfoldable pub four : List ℕ → ℕ → ℕ
four xs at = two xs at + 65536 * two xs (at + 2)

unfoldable pub eight : List ℕ → ℕ → ℕ
eight xs at = four xs at + 4294967296 * four xs (at + 4)
