-- THE BUFFERS OF STANDARD INPUT AND OUTPUT, UNDER WAY. Definitions only.
use Rattle.std.specs.Prelude.{◌≡◌, List, ℕ, ◌-◌, ◌/◌, ◌%◌, ◌≤◌, length, get_or}
use Rattle.io.specs.Digits.{hex_digit_ascii}
use Rattle.v2calls.specs.declared.feeding.Feed.{Feed}
use Rattle.v2calls.specs.declared.serving.State.{State}

-- a buffer with room for two bytes, of which so many are used
abbrev pub Room : List ℕ → ℕ → Type 0
Room out used = (2 ≤ length out) × (used ≤ length out)

-- the bytes of a feed lie in the buffer
abbrev pub Fed : List ℕ → Feed → Type 0
Fed input feed = feed.end ≤ length input

-- the last byte used is this one
abbrev pub Last : List ℕ → ℕ → ℕ → Type 0
Last out used byte = (1 ≤ used) × (get_or out (used - 1) 0 ≡ byte)

-- the last two bytes used are the hexadecimal digits of this one
abbrev pub Spells : List ℕ → ℕ → ℕ → Type 0
Spells out used byte = (2 ≤ used) × (get_or out (used - 2) 0 ≡ hex_digit_ascii (byte / 16)) × (get_or out (used - 1) 0 ≡ hex_digit_ascii (byte % 16))

-- between two calls both buffers are as they should be
abbrev pub Steady : List ℕ → List ℕ → State → Type 0
Steady input out state = Fed input state.feed × Room out state.used
