-- REFUSAL NUMBERS (document 01, the table of that name). Definitions only.
use Rattle.std.specs.Prelude.{◌≡◌, ◌⊎◌, List, [], ◌∷◌, ℕ, ◌<◌, Result, Ok, Err}
use Rattle.answer.specs.declared.Refusal.{Refusal}
use Rattle.answer.specs.declared.Refusal.TheVariants.{BadRows, BadColumns, BadSymbol, BadStripe, SmallWorkspace, NoSuchPlace, SameColumn, BadBuffer, Disagree, NoSuchStock, UnknownKind, BadRecord, BadPayload, NoShape}

-- the number of each refusal
unfoldable pub refusal_number : Refusal → ℕ
refusal_number BadRows = 1
refusal_number BadColumns = 2
refusal_number BadSymbol = 3
refusal_number BadStripe = 4
refusal_number SmallWorkspace = 5
refusal_number NoSuchPlace = 6
refusal_number SameColumn = 7
refusal_number BadBuffer = 8
refusal_number Disagree = 9
refusal_number NoSuchStock = 10
refusal_number UnknownKind = 11
refusal_number BadRecord = 12
refusal_number BadPayload = 13
refusal_number NoShape = 14

-- the number of an answer; "0 means done"
unfoldable pub number : {A : Type 0} → Result A Refusal → ℕ
number (Ok x) = 0
number (Err r) = refusal_number r

-- the answer of a call that gives nothing besides
abbrev pub Answer : Type 0
Answer = Result (Unit {0}) Refusal

-- A call's table of refusals: numbers in the document's order, each with the condition under which it applies to the call.
abbrev pub Table : Type 1
Table = List (ℕ × Type 0)

-- The first row that applies gives the number; no row applies: 0.
-- (Where the numbers of a table rise, this is "the lowest number that applies to the call": `FirstIsLowest`.)
abbrev pub First : Table → ℕ → Type 0
First [] k = k ≡ 0
First (row ∷ rest) k = (row.1 × (k ≡ row.0)) ⊎ ((¬ row.1) × First rest k)

-- the number k stands in a table with a condition that applies; the numbers of a table rise, all above k
abbrev pub Applies : Table → ℕ → Type 0
Applies [] k = ⊥
Applies (row ∷ rest) k = (row.1 × (k ≡ row.0)) ⊎ Applies rest k

abbrev pub Rises : ℕ → Table → Type 0
Rises k [] = Unit {0}
Rises k (row ∷ rest) = (k < row.0) × Rises row.0 rest
