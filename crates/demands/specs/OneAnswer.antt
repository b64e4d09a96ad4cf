-- ONE ANSWER. "The statement of a public function leaves one possible result and one possible content of each lent buffer. That there is only one
-- is itself proved." Two outcomes that meet a call's contract for the same input are the same; and there always is one.
-- Proofs: proofs/, the same names in small letters.
use Rattle.std.specs.Prelude.{◌≡◌, List, ℕ, Result}
use Rattle.shape.specs.declared.Shape.{Shape}
use Rattle.answer.specs.declared.Refusal.{Refusal}
use Rattle.answer.specs.Answers.{Answer}
use Rattle.stock.specs.declared.Priced.{Priced}
use Rattle.stock.specs.Prices.{Prices}
use Rattle.stock.specs.Stock.{Stock}
use Rattle.rule.specs.declared.Losses.{Losses}
use Rattle.encoding.specs.Encode.{Encode}
use Rattle.checking.specs.Check.{Check}
use Rattle.locating.specs.Locate.{Locate}
use Rattle.writing.specs.Write.{SmallWrite}
use Rattle.storing.specs.Store.{RawStore}
use Rattle.handing.specs.Column.{ColumnRead}
use Rattle.rebuild.specs.Rebuild.{Rebuild}
use Rattle.filling.specs.Fill.{Fill}
use Rattle.filling.specs.Choose.{Choose}
use Rattle.job.specs.declared.State.{State}
use Rattle.job.specs.declared.Turn.{Turn}
use Rattle.job.specs.Step.{Stepped}
use Rattle.demands.specs.Sequences.{Request, World, Event, Step}

-- one result
abbrev pub OneResult : {A : Type 0} → (A → Type 0) → Type 0
OneResult {A} Contract = (a b : A) → Contract a → Contract b → a ≡ b

-- one answer and one content of a lent buffer
abbrev pub OneOutcome : (Answer → List ℕ → Type 0) → Type 0
OneOutcome Contract = (a b : Answer) (x y : List ℕ) → Contract a x → Contract b y → (a ≡ b) × (x ≡ y)

abbrev pub OneEncode : Type 0
OneEncode = (sh : Shape) (s : List ℕ) → OneOutcome (Encode sh s)

abbrev pub OneCheck : Type 0
OneCheck = (sh : Shape) (s : List ℕ) → OneResult (Check sh s)

abbrev pub OneLocate : Type 0
OneLocate = (sh : Shape) (s : List ℕ) → OneResult (Locate sh s)

abbrev pub OneSmallWrite : Type 0
OneSmallWrite = (sh : Shape) (s : List ℕ) (c r : ℕ) (z : List ℕ) → OneOutcome (SmallWrite sh s c r z)

abbrev pub OneRawStore : Type 0
OneRawStore = (sh : Shape) (s : List ℕ) (c r : ℕ) (z : List ℕ) → OneOutcome (RawStore sh s c r z)

-- nothing here says what the workspace held
abbrev pub OneRebuild : Type 0
OneRebuild = (sh : Shape) (lost : Losses) (s : List ℕ) (room : ℕ) (a b : Answer) (x y u v : List ℕ)
    → Rebuild sh lost s room a x u → Rebuild sh lost s room b y v → (a ≡ b) × (x ≡ y) × (u ≡ v)

abbrev pub OneColumn : Type 0
OneColumn = (sh : Shape) (s : List ℕ) (c : ℕ) → OneResult (ColumnRead sh s c)

abbrev pub OneFill : Type 0
OneFill = (sh : Shape) (s : List ℕ) (lost : Losses) (c : ℕ) (z : List ℕ) → OneOutcome (Fill sh s lost c z)

abbrev pub OneChoose : Type 0
OneChoose = (sh : Shape) (s : List ℕ) (lost : Losses) (c : ℕ) (z : List ℕ) → OneResult (Choose sh s lost c z)

abbrev pub OnePrices : Type 0
OnePrices = (sh : Shape) → OneResult {A = Result Priced Refusal} (Prices sh)

abbrev pub OneStock : Type 0
OneStock = (i : ℕ) → OneResult {A = Result Shape Refusal} (Stock i)

-- a step of the job program; here too nothing says what the workspace held
abbrev pub OneStep : Type 0
OneStep = (st : State) (input s : List ℕ) (room : ℕ) (r q : Turn) (x y u v : List ℕ)
    → Stepped st input s room r x u → Stepped st input s room q y v → (r ≡ q) × (x ≡ y) × (u ≡ v)

-- ---- SOME ANSWER. No contract asks for what cannot be: every request of every client, in whatever state, can be served.
-- (With one answer: each contract is met by one outcome exactly, for every input.)
abbrev pub SomeAnswer : Type 0
SomeAnswer = (c : ℕ) (q : Request) (before : World) → (e : Event) × (e.client ≡ c) × (e.request ≡ q) × Step before e
