-- THE WORDS OF THE INPUT, and the numbers that they spell. Definitions only.
use Rattle.std.specs.Prelude.{◌≡◌, ◌⊎◌, Option, Some, None, List, [], ◌∷◌, ℕ, ◌+◌, ◌-◌, ◌*◌, ◌≤◌, ◌<◌, length, get_or}
use Rattle.words.specs.declared.Word.{Word}

-- a space, and every byte below it, is a blank
abbrev pub blank : ℕ
blank = 32

-- the blanks of a text from `from` on end at r
pub record Blanks (text : List ℕ) (from r : ℕ) : Type 0 where
  pub since : from ≤ r
  pub inside : r ≤ length text
  pub all : (k : ℕ) → from ≤ k → k < r → get_or text k 0 ≤ blank
  pub ends : r < length text → blank < get_or text r 0

-- the bytes from `from` on that are no blanks end at r
pub record Letters (text : List ℕ) (from r : ℕ) : Type 0 where
  pub since : from ≤ r
  pub inside : r ≤ length text
  pub all : (k : ℕ) → from ≤ k → k < r → blank < get_or text k 0
  pub ends : r < length text → get_or text r 0 ≤ blank

-- the first word of a text from `from` on: it is after the blanks, and as long as there are none; there is none where the blanks end with the text
pub record Worded (text : List ℕ) (from : ℕ) (r : Option Word) : Type 0 where
  pub blanks : (word : Word) → r ≡ Some word → Blanks text from word.start
  pub letters : (word : Word) → r ≡ Some word → Letters text word.start word.end
  pub some : (word : Word) → r ≡ Some word → word.start < word.end
  pub none : r ≡ None → Blanks text from (length text)

-- every byte is a decimal digit: 0 is the byte 48, and 9 is 57
abbrev pub Digits : List ℕ → Type 0
Digits word = (k : ℕ) → k < length word → (48 ≤ get_or word k 0) × (get_or word k 0 ≤ 57)

-- the number that digits spell, the first one first, after a number v
unfoldable pub spelled : ℕ → List ℕ → ℕ
spelled v [] = v
spelled v (b ∷ bs) = spelled (10 * v + (b - 48)) bs

-- r is the number that the word spells, if that is below 1000; None says that it spells none below
pub record Spells (word : List ℕ) (r : Option ℕ) : Type 0 where
  pub most : (v : ℕ) → r ≡ Some v → v < 1000
  pub number : (v : ℕ) → r ≡ Some v → Digits word × (v ≡ spelled 0 word)
  pub none : r ≡ None → (¬ Digits word) ⊎ (1000 ≤ spelled 0 word)

-- the word spells no number from `least` to `most`
abbrev pub Refused : List ℕ → ℕ → ℕ → Type 0
Refused word least most = Digits word → (spelled 0 word < least) ⊎ (most < spelled 0 word)
