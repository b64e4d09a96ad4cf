-- A LINE AS BYTES (document 01, "The job program"): l is the line, s the buffer; r is how many bytes were written, s' the buffer as left. Definitions only.
use Rattle.std.specs.Prelude.{◌≡◌, cond, List, [], ◌∷◌, ◌++◌, ℕ, zero, suc, ◌+◌, ◌/◌, ◌%◌, ◌≤◌, ◌<◌, ltb, length, drop}
use Rattle.line.specs.declared.Line.{Line}

-- "in decimal": the digits of k in ASCII, where 48 is "0"; 0 has one digit, and no other number begins with 0. There are at most `most` of them.
unfoldable pub digits_within : ℕ → ℕ → List ℕ
digits_within zero k = []
digits_within (suc most) k = cond (ltb k 10) ((48 + k) ∷ []) (digits_within most (k / 10) ++ ((48 + k % 10) ∷ []))

unfoldable pub digits : ℕ → List ℕ
digits k = digits_within (suc k) k

-- the digits of a field and the byte after them: a space is 32, a newline 10
unfoldable pub field : ℕ → ℕ → List ℕ
field k mark = digits k ++ (mark ∷ [])

-- "Line, in decimal with one space between fields: record number .., kind, answer, x, y."
unfoldable pub text : Line → List ℕ
text l = field l.number 32 ++ field l.kind 32 ++ field l.answer 32 ++ field l.x 32 ++ field l.y 10

-- the longest line: five fields of 20 digits, each with the byte after it
abbrev pub longest_line : ℕ
longest_line = 105

pub record Printed (l : Line) (s : List ℕ) (r : ℕ) (s' : List ℕ) : Type 0 where
  pub short : length s < longest_line → (r ≡ 0) × (s' ≡ s)
  pub whole : longest_line ≤ length s → (r ≡ length (text l)) × (s' ≡ text l ++ drop (length (text l)) s)
