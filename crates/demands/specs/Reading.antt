-- THE READING OF THE WORDS: sentences of document 01 that follow from the definitions. Proofs: proofs/, the same names in small letters.
use Rattle.std.specs.Prelude.{◌≡◌, ◌↔◌, ◌≢◌, ◌⊎◌, true, false, cond, List, ℕ, ◌+◌, ◌*◌, ◌<◌, ◌≤◌, length, get_or, ltb, is_some, Some, Ok}
use Rattle.xor.specs.Xor.{◌⊕◌}
use Rattle.shape.specs.declared.Shape.{Shape}
use Rattle.answer.specs.Answers.{Answer}
use Rattle.shape.specs.Good.{Good, size}
use Rattle.shape.specs.Place.{height, column_length, byte, column}
use Rattle.shape.specs.Step.{left, right}
use Rattle.answer.specs.Answers.{Table, First, Applies, Rises}
use Rattle.shape.specs.Refusals.{shape_table, stripe_table}
use Rattle.stock.specs.Stock.{stock, zero_shape, stock_table}
use Rattle.rule.specs.declared.Losses.{Losses}
use Rattle.rule.specs.declared.Losses.TheVariants.{One, Two}
use Rattle.rule.specs.Rule.{others, chain, mark, Obeys}
use Rattle.rule.specs.Losses.{Beyond, Twice, Bytes}
use Rattle.rule.specs.Outer.{walk, first, second, without, Outer}
use Rattle.checking.specs.Check.{broken_chains}
use Rattle.locating.specs.Locate.{Mends, Explains}
use Rattle.writing.specs.Write.{SmallWrite, write_table}
use Rattle.storing.specs.Store.{store_table}
use Rattle.handing.specs.Column.{column_table}
use Rattle.rebuild.specs.Rebuild.{Rebuild, rebuild_table}
use Rattle.filling.specs.Fill.{Fill, fill_table}
use Rattle.filling.specs.Choose.{Choose}
use Rattle.records.specs.Record.{kind_of, payload, Unframed, Clients}
use Rattle.kinds.specs.Kinds.{Kind, kind_number, Unknown, Early, Wrong}
use Rattle.line.specs.declared.Line.{Line}
use Rattle.job.specs.declared.State.{State}
use Rattle.job.specs.declared.Turn.{Turn}
use Rattle.job.specs.Step.{answer_on, Stepped}

-- ---- layout and chains

-- "Column j is the bytes from j·m·w up to (j+1)·m·w. Row i of it starts i·w bytes in."
abbrev pub Layout : Type 0
Layout = (sh : Shape) (s : List ℕ) (i j t : ℕ) → i < sh.m → byte sh s t (height sh i) j ≡ get_or s (j * column_length sh + i * sh.w + t) 0

-- "So a symbol of height d in column c belongs to chains c-d and c+d and no other." A 1 in that symbol alone shows in these chains' XOR.
abbrev pub TwoChains : Type 0
TwoChains = (sh : Shape) → Good sh → (d c p : ℕ) → 1 ≤ d → d < sh.m → c < sh.n → p < sh.n
    → ((p ≡ left sh.n c d) ⊎ (p ≡ right sh.n c d) → others sh.m sh.n (mark d c) p ≡ 1)
    × (p ≢ left sh.n c d → p ≢ right sh.n c d → others sh.m sh.n (mark d c) p ≡ 0)

-- "A chain has 2m-1 symbols, all in different columns."
abbrev pub DifferentColumns : Type 0
DifferentColumns = (sh : Shape) → Good sh → (p d e : ℕ) → p < sh.n → d < sh.m → e < sh.m
    → (left sh.n p d ≡ left sh.n p e → d ≡ e) × (right sh.n p d ≡ right sh.n p e → d ≡ e)
    × (left sh.n p d ≡ right sh.n p e → (d ≡ 0) × (e ≡ 0)) × (left sh.n p 0 ≡ p)

-- ---- the refusal order: "The lowest number that applies to the call is the answer; 0 means done."

-- every table's numbers rise
abbrev pub TablesRise : Type 0
TablesRise = (sh : Shape) (s x : List ℕ) (lost : Losses) (c r room i : ℕ)
    → Rises 0 (shape_table sh) × Rises 0 (stripe_table sh s) × Rises 0 (write_table sh s c r x) × Rises 0 (store_table sh s c r x)
    × Rises 0 (rebuild_table sh lost s room) × Rises 0 (column_table sh s c) × Rises 0 (fill_table sh s lost c room) × Rises 0 (stock_table i)

-- so the answer, if it is no 0, applies; and no number that applies is below it, or stands where the answer is 0
abbrev pub FirstIsLowest : Type 1
FirstIsLowest = (T : Table) → Rises 0 T → (k : ℕ) → First T k → (k ≢ 0 → Applies T k) × ((j : ℕ) → Applies T j → (k ≢ 0) × (k ≤ j))

-- a shape is not refused exactly when it is good
abbrev pub GoodIsDone : Type 0
GoodIsDone = (sh : Shape) → Good sh ↔ First (shape_table sh) 0

-- ---- the calls on a stripe

-- check: no broken chain exactly when the stripe obeys the rule
abbrev pub NoneBroken : Type 0
NoneBroken = (sh : Shape) (s : List ℕ) → (broken_chains sh s ≡ 0) ↔ Obeys sh s

-- locate: a column explains every difference exactly when a change within it alone makes the stripe sound
abbrev pub ExplainsIsMends : Type 0
ExplainsIsMends = (sh : Shape) → Good sh → (s : List ℕ) → length s ≡ size sh → Bytes s → (c : ℕ) → c < sh.n → Explains sh s c ↔ Mends sh s c

-- small write: "XORs the change into its two parity symbols", those of chains c-d and c+d, d being the row's height; no other parity changes
abbrev pub TwoParities : Type 0
TwoParities = (sh : Shape) (s : List ℕ) (c r : ℕ) (z x : List ℕ) → SmallWrite sh s c r z (Ok tt) x → (p t : ℕ) → p < sh.n → t < sh.w
    → ((p ≡ left sh.n c (height sh r)) ⊎ (p ≡ right sh.n c (height sh r))
    → byte sh x t 0 p ≡ byte sh s t 0 p ⊕ (byte sh s t (height sh r) c ⊕ get_or z t 0))
    × (p ≢ left sh.n c (height sh r) → p ≢ right sh.n c (height sh r) → byte sh x t 0 p ≡ byte sh s t 0 p)

-- each stock shape is good
abbrev pub StockGood : Type 0
StockGood = (i : ℕ) → i ≤ 9 → Good (get_or stock i zero_shape)

-- ---- the outer-chain order

-- the walk from a upward, modulo n, ends at b
abbrev pub WalkEnds : Type 0
WalkEnds = (n a b : ℕ) → a < n → b < n → (right n a (walk n a b) ≡ b) × (walk n a b < n)

-- "The first column's symbol of height d is solved from chain (first - d), the second's from chain (second + d). When d+s is at most m-1 that
-- chain holds the other column's symbol of height d+s"; "with one lost column, use chain c-d". Each is the XOR of the chain's survivors and,
-- where it is asked for, of the other column's symbol.
abbrev pub SolvedFrom : Type 0
SolvedFrom = (sh : Shape) → Good sh → (s x : List ℕ) (d t : ℕ) → d < sh.m → t < sh.w
    → ((c : ℕ) → c < sh.n → Outer sh (One c) s x → byte sh x t d c ≡ chain sh.m sh.n (without c c (byte sh s t)) (left sh.n c d))
    × ((a b f g k : ℕ) → a < sh.n → b < sh.n → a ≢ b → f ≡ first sh.n a b → g ≡ second sh.n a b → k ≡ walk sh.n f g → Outer sh (Two a b) s x
    → (byte sh x t d f ≡ chain sh.m sh.n (without f g (byte sh s t)) (left sh.n f d) ⊕ cond (ltb (d + k) sh.m) (byte sh x t (d + k) g) 0)
    × (byte sh x t d g ≡ chain sh.m sh.n (without f g (byte sh s t)) (right sh.n g d) ⊕ cond (ltb (d + k) sh.m) (byte sh x t (d + k) f) 0))

-- one stripe is solved in this order, and some stripe is
abbrev pub OneOuter : Type 0
OneOuter = (sh : Shape) → Good sh → (lost : Losses) → ¬ Beyond sh.n lost → ¬ Twice lost → (s x y : List ℕ) → length s ≡ size sh
    → Outer sh lost s x → Outer sh lost s y → x ≡ y

abbrev pub SomeOuter : Type 0
SomeOuter = (sh : Shape) → Good sh → (lost : Losses) → ¬ Beyond sh.n lost → ¬ Twice lost → (s : List ℕ) → length s ≡ size sh
    → (x : List ℕ) × Outer sh lost s x

-- ---- column read

-- fill: "Its answer is the outer-chain order, equal to rebuild's whenever rebuild accepts"
abbrev pub FillIsRebuild : Type 0
FillIsRebuild = (sh : Shape) (lost : Losses) (s : List ℕ) (room : ℕ) (x u y : List ℕ) → Rebuild sh lost s room (Ok tt) x u → Outer sh lost s y → y ≡ x

-- fill: as for rebuild, the order in which two columns are named makes no difference, even where the survivors disagree
abbrev pub FillEitherOrder : Type 0
FillEitherOrder = (sh : Shape) (a b : ℕ) (s : List ℕ) (c : ℕ) (buffer : List ℕ) (r : Answer) (buffer' : List ℕ)
    → Fill sh s (Two a b) c buffer r buffer' → Fill sh s (Two b a) c buffer r buffer'

-- fill, then choose: the part is the column of the stripe that rebuild would leave, whenever rebuild accepts
abbrev pub FillThenChoose : Type 0
FillThenChoose = (sh : Shape) (s : List ℕ) (lost : Losses) (room : ℕ) (x u : List ℕ) (c : ℕ) (buffer buffer' part : List ℕ)
    → Rebuild sh lost s room (Ok tt) x u → Fill sh s lost c buffer (Ok tt) buffer' → Choose sh s lost c buffer' part → part ≡ column sh x c

-- choose: "the part has length 0 exactly when fill, called with the same arguments, would be refused"
abbrev pub ChooseEmpty : Type 0
ChooseEmpty = (sh : Shape) (s : List ℕ) (lost : Losses) (c : ℕ) (buffer part buffer' : List ℕ) (a : Answer)
    → Choose sh s lost c buffer part → Fill sh s lost c buffer a buffer' → (length part ≡ 0) ↔ (a ≢ Ok tt)

-- ---- the job program: st, input and s are as in Stepped, r what the step comes to

abbrev pub OfSteps : (State → List ℕ → Turn → Type 0) → Type 0
OfSteps P = (st : State) (input s : List ℕ) (room : ℕ) (r : Turn) (s' work' : List ℕ) → Stepped st input s room r s' work' → P st input r

-- "Program refusals come before the others, in this order: 12, .. (kind printed as 0, program stops); 11, ..; 14, ..; 13, ..": each is given wherever
-- it applies and none before it does, whatever those behind it say.
abbrev pub ProgramOrder : Type 0
ProgramOrder = OfSteps (λ st input r.
    (0 < length input → Unframed input → ((l : Line) × (r.line ≡ Some l) × (l.answer ≡ 12) × (l.kind ≡ 0)) × (r.stops ≡ true))
    × (¬ Unframed input → ¬ Clients (kind_of input) → Unknown (kind_of input) → answer_on r.line ≡ 11)
    × (¬ Unframed input → (k : Kind) → kind_of input ≡ kind_number k
    → (Early k st.held → answer_on r.line ≡ 14) × (¬ Early k st.held → Wrong k (payload input) → answer_on r.line ≡ 13)))

-- "It prints one line for each record except those it skips." "Clean end of input prints nothing."
abbrev pub LineForEach : Type 0
LineForEach = OfSteps (λ st input r.
    (0 < length input → Unframed input ⊎ (¬ Clients (kind_of input)) → is_some r.line ≡ true)
    × ((length input ≡ 0) ⊎ ((¬ Unframed input) × Clients (kind_of input)) → is_some r.line ≡ false))
