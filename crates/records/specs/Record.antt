-- A RECORD OF THE INPUT (document 01, "The job program"). Definitions only.
use Rattle.std.specs.Prelude.{◌⊎◌, List, ℕ, ◌+◌, ◌-◌, ◌*◌, ◌≤◌, ◌<◌, length, get_or, take, drop}

-- "every two-byte number is little-endian": the one at place i
unfoldable pub two_bytes : List ℕ → ℕ → ℕ
two_bytes xs i = get_or xs i 0 + 256 * get_or xs (i + 1) 0

-- "Each has a two-byte length, little-endian, counting what follows it; then a two-byte kind; then the payload." What is left of the input begins with it.
unfoldable pub counted : List ℕ → ℕ
counted input = two_bytes input 0

unfoldable pub kind_of : List ℕ → ℕ
kind_of input = two_bytes input 2

unfoldable pub payload : List ℕ → List ℕ
payload input = take (counted input - 2) (drop 4 input)

-- 12: "the length is under 2 or over 4,100 or the input ends inside a record"
abbrev pub Unframed : List ℕ → Type 0
Unframed input = (length input < 2) ⊎ ((counted input < 2) ⊎ ((4100 < counted input) ⊎ (length input < 2 + counted input)))

-- "Kinds 32,768 and above belong to clients"
abbrev pub Clients : ℕ → Type 0
Clients kind = 32768 ≤ kind
