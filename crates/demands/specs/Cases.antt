-- SMALL STRIPES BY HAND (document 01, P1 to P11, and the session of the job program): one list of cases, and what it is for a case to hold,
-- said by the definitions of the rule and by the calls' own contracts.
use Rattle.std.specs.Prelude.{◌≡◌, cond, List, [], ◌∷◌, ℕ, zero, suc, ◌-◌, ◌*◌, ◌≤◌, ◌<◌, length, drop, replicate, eqb, Option, None, Some, Result, Ok, Err}
use Rattle.xor.specs.Xor.{◌⊕◌}
use Rattle.shape.specs.declared.Shape.{Shape}
use Rattle.answer.specs.declared.Refusal.{Refusal}
use Rattle.answer.specs.declared.Refusal.TheVariants.{NoSuchStock}
use Rattle.shape.specs.Good.{Within, symbol, Good, shape}
use Rattle.shape.specs.Place.{column_length}
use Rattle.answer.specs.Answers.{First}
use Rattle.shape.specs.Refusals.{shape_table}
use Rattle.stock.specs.Prices.{Prices}
use Rattle.stock.specs.Stock.{Stock}
use Rattle.rule.specs.declared.Losses.{Losses}
use Rattle.rule.specs.declared.Losses.TheVariants.{One, Two}
use Rattle.rule.specs.Rule.{Grid, others, chain, mark}
use Rattle.rule.specs.Outer.{first}
use Rattle.locating.specs.declared.Damage.{Damage}
use Rattle.locating.specs.declared.Damage.TheVariants.{Column, Several}
use Rattle.encoding.specs.Encode.{Encode}
use Rattle.checking.specs.Check.{Check}
use Rattle.locating.specs.Locate.{Locate}
use Rattle.writing.specs.Write.{SmallWrite}
use Rattle.storing.specs.Store.{RawStore}
use Rattle.handing.specs.Column.{ColumnRead}
use Rattle.rebuild.specs.Rebuild.{Rebuild}
use Rattle.filling.specs.Fill.{Fill}
use Rattle.filling.specs.Choose.{Choose}
use Rattle.line.specs.declared.Line.{Line}
use Rattle.job.specs.declared.State.{State}
use Rattle.job.specs.declared.Turn.{Turn}
use Rattle.job.specs.Step.{Stepped}

pub data Case : Type 0 where
  chain_of : (m n p : ℕ) (symbols : List (ℕ × ℕ)) → Case  -- chain p is these symbols (row, column), its parity among them
  chains_at : (m n row column : ℕ) (chains : List ℕ) → Case  -- the symbol there is in these chains and no other
  any_w : (m n answer : ℕ) → Case  -- (m, n) gets this number, whatever w is
  good_w : (m n : ℕ) → Case  -- (m, n) is good for every w of its range
  one_w : (m n w answer : ℕ) → Case  -- (m, n, w) gets this number
  encodes : (information parity : List ℕ) → Case  -- (2, 5), w 1, whatever the parity was
  rebuilds : (sh : Shape) (lost : Losses) (lent left : List ℕ) → Case  -- the stripe as lent, and as left
  is_first : (n a b column : ℕ) → Case  -- of the lost columns a and b
  small_writes : (sh : Shape) (lent : List ℕ) (column row : ℕ) (new left : List ℕ) → Case
  raw_stores : (sh : Shape) (lent : List ℕ) (column row : ℕ) (new left : List ℕ) → Case
  counts : (sh : Shape) (lent : List ℕ) (broken bits : ℕ) → Case
  finds : (sh : Shape) (lent : List ℕ) (damage : Damage) → Case
  fills : (sh : Shape) (s : List ℕ) (lost : Losses) (wanted : ℕ) (lent left : List ℕ) → Case  -- the answer buffer as lent, and as left
  chooses : (sh : Shape) (s : List ℕ) (lost : Losses) (wanted : ℕ) (buffer part : List ℕ) → Case
  hands_out : (sh : Shape) (s : List ℕ) (column : ℕ) (part : List ℕ) → Case
  stocks : (i : ℕ) (answer : Result Shape Refusal) → Case
  costs : (m n encode one two reads : ℕ) → Case  -- whatever w is
  prints : (st : State) (input lent : List ℕ) (lines : List (List ℕ)) → Case  -- the job program from that state on; [] for a record without a line

-- the XOR of the symbols of a grid at these rows and columns
unfoldable pub xor_at : ℕ → Grid → List (ℕ × ℕ) → ℕ
xor_at m X [] = 0
xor_at m X (s ∷ rest) = X (m - 1 - s.0) s.1 ⊕ xor_at m X rest

-- of the chains from p up, k of them, those whose others XOR to 1
unfoldable pub chains_with : ℕ → ℕ → Grid → ℕ → ℕ → List ℕ
chains_with m n X p zero = []
chains_with m n X p (suc k) = cond (eqb (others m n X p) 1) (p ∷ chains_with m n X (suc p) k) (chains_with m n X (suc p) k)

-- the stripe of (2, 5), w 1, with this information and this parity
unfoldable pub woven : List ℕ → List ℕ → List ℕ
woven [] q = []
woven (i ∷ is) [] = []
woven (i ∷ is) (p ∷ ps) = i ∷ p ∷ woven is ps

abbrev pub five : ℕ → ℕ → ℕ → ℕ → ℕ → List ℕ
five a b c d e = a ∷ b ∷ c ∷ d ∷ e ∷ []

abbrev pub sh₅ : Shape
sh₅ = shape 2 5 1

-- the numbers of a line, none where there is no line; those of the line of a step
abbrev pub numbers_of : Option Line → List ℕ
numbers_of None = []
numbers_of (Some l) = five l.number l.kind l.answer l.x l.y

unfoldable pub printed : Turn → List ℕ
printed r = numbers_of r.line

-- the lines of the job program, step by step, as long as there is input left
abbrev pub Prints : State → List ℕ → List ℕ → ℕ → List (List ℕ) → Type 0
Prints st input s room [] = length input ≡ 0
Prints st input s room (line ∷ rest) =
    (0 < length input) × (r : Turn) × (s' work' : List ℕ) × Stepped st input s room r s' work' × (printed r ≡ line)
    × Prints r.state (drop r.taken input) s' room rest

abbrev pub Holds : Case → Type 0
Holds (chain_of m n p symbols) = (X : Grid) → chain m n X p ≡ xor_at m X symbols
Holds (chains_at m n row column chains) = chains_with m n (mark (m - 1 - row) column) 0 n ≡ chains
Holds (any_w m n answer) = (w : ℕ) → First (shape_table (shape m n w)) answer
Holds (good_w m n) = (w : ℕ) → Within symbol w → First (shape_table (shape m n w)) 0
Holds (one_w m n w answer) = First (shape_table (shape m n w)) answer
Holds (encodes information parity) = (a b c d e : ℕ) → Encode sh₅ (woven information (five a b c d e)) (Ok tt) (woven information parity)
Holds (rebuilds sh lost lent left) = (room : ℕ) → 2 * column_length sh ≤ room → Rebuild sh lost lent room (Ok tt) left (replicate room 0)
Holds (is_first n a b column) = first n a b ≡ column
Holds (small_writes sh lent column row new left) = SmallWrite sh lent column row new (Ok tt) left
Holds (raw_stores sh lent column row new left) = RawStore sh lent column row new (Ok tt) left
Holds (counts sh lent broken bits) = Check sh lent (Ok (record { broken = broken; bits = bits }))
Holds (finds sh lent damage) = Locate sh lent (Ok damage)
Holds (fills sh s lost wanted lent left) = Fill sh s lost wanted lent (Ok tt) left
Holds (chooses sh s lost wanted buffer part) = Choose sh s lost wanted buffer part
Holds (hands_out sh s column part) = ColumnRead sh s column part
Holds (stocks i answer) = Stock i answer
Holds (costs m n encode one two reads) = (w : ℕ) → Good (shape m n w) → Prices (shape m n w) (Ok (record { encode = encode; one = one; two = two; reads = reads }))
Holds (prints st input lent lines) = (room : ℕ) → 2 * column_length sh₅ ≤ room → Prints st input lent room lines

unfoldable pub information : List ℕ
information = five 0x01 0x02 0x04 0x08 0x10

unfoldable pub parity : List ℕ
parity = five 0x12 0x05 0x0A 0x14 0x09

unfoldable pub stripe₅ : List ℕ
stripe₅ = woven information parity

-- the same with columns 0 and 2 lost, 4 and 0 lost, information 0 cleared, information 0 and 1 each XORed with 01
unfoldable pub lost_0_2 : List ℕ
lost_0_2 = woven (five 0xEE 0x02 0xEE 0x08 0x10) (five 0xEE 0x05 0xEE 0x14 0x09)

unfoldable pub lost_4_0 : List ℕ
lost_4_0 = woven (five 0xEE 0x02 0x04 0x08 0xEE) (five 0xEE 0x05 0x0A 0x14 0xEE)

unfoldable pub cleared_0 : List ℕ
cleared_0 = woven (five 0x00 0x02 0x04 0x08 0x10) parity

unfoldable pub flipped_0_1 : List ℕ
flipped_0_1 = woven (five 0x00 0x03 0x04 0x08 0x10) parity

-- the job program at its start, and with (2, 5), w 1 held after this many records
abbrev pub start : State
start = record { held = None; records = 0 }

abbrev pub after : ℕ → State
after k = record { held = Some sh₅; records = k }

unfoldable pub session : List ℕ
session =
    0x06 ∷ 0x00 ∷ 0x01 ∷ 0x00 ∷ 0x02 ∷ 0x05 ∷ 0x01 ∷ 0x00
    ∷ 0x05 ∷ 0x00 ∷ 0x02 ∷ 0x00 ∷ 0x00 ∷ 0x00 ∷ 0xA5
    ∷ 0x02 ∷ 0x00 ∷ 0x04 ∷ 0x00
    ∷ 0x05 ∷ 0x00 ∷ 0x03 ∷ 0x00 ∷ 0x01 ∷ 0x01 ∷ 0xA4
    ∷ 0x02 ∷ 0x00 ∷ 0x04 ∷ 0x00
    ∷ 0x02 ∷ 0x00 ∷ 0x05 ∷ 0x00
    ∷ 0x04 ∷ 0x00 ∷ 0x06 ∷ 0x00 ∷ 0x01 ∷ 0x03
    ∷ 0x05 ∷ 0x00 ∷ 0x06 ∷ 0x00 ∷ 0x02 ∷ 0x01 ∷ 0x00
    ∷ 0x02 ∷ 0x00 ∷ 0x04 ∷ 0x00
    ∷ []

unfoldable pub session_lines : List (List ℕ)
session_lines =
    five 1 1 0 10 0
    ∷ five 2 2 0 0 0
    ∷ five 3 4 0 0 0
    ∷ five 4 3 0 0 0
    ∷ five 5 4 0 1 1
    ∷ five 6 5 0 1 1
    ∷ five 7 6 9 0 0
    ∷ five 8 6 0 2 0
    ∷ five 9 4 0 0 0
    ∷ []

unfoldable pub cases : List Case
cases =
    -- P1. (3,9): chain 2 is parity 2 with (row 0, col 0), (1,1), (1,3), (0,4).
    chain_of 3 9 2 ((2, 2) ∷ (0, 0) ∷ (1, 1) ∷ (1, 3) ∷ (0, 4) ∷ [])
    -- P2. (3,9): row 0 column 0 is in chains 2 and 7; row 1 column 0 in 1 and 8.
    ∷ chains_at 3 9 0 0 (2 ∷ 7 ∷ [])
    ∷ chains_at 3 9 1 0 (1 ∷ 8 ∷ [])
    -- P3. (2,4) refused 2; (2,5) good.
    ∷ any_w 2 4 2
    ∷ good_w 2 5
    -- P4. (16,60) refused 2; (16,61) with w 67 good, w 68 refused 3.
    ∷ any_w 16 60 2
    ∷ one_w 16 61 67 0
    ∷ one_w 16 61 68 3
    -- P5. (2,5), w 1, information 01 02 04 08 10: parity 12 05 0A 14 09.
    ∷ encodes information parity
    -- P6. From P5, lose 0 and 2: they come back 01, 12 and 04, 0A.
    ∷ rebuilds sh₅ (Two 0 2) lost_0_2 stripe₅
    -- P7. Lose 4 and 0: first is 4; they come back 10, 09 and 01, 12.
    ∷ is_first 5 4 0 4
    ∷ is_first 5 0 4 4
    ∷ rebuilds sh₅ (Two 4 0) lost_4_0 stripe₅
    -- P8. From P5, small write FF to column 4: parity 0 becomes FD, parity 3 FB.
    ∷ small_writes sh₅ stripe₅ 4 0 (0xFF ∷ []) (woven (five 0x01 0x02 0x04 0x08 0xFF) (five 0xFD 0x05 0x0A 0xFB 0x09))
    -- P9. From P5, raw 00 in column 0 row 0: 2 broken chains, 2 bits, column 0.
    ∷ raw_stores sh₅ stripe₅ 0 0 (0x00 ∷ []) cleared_0
    ∷ counts sh₅ cleared_0 2 2
    ∷ finds sh₅ cleared_0 (Column 0)
    -- P10. From P5, information 0 and 1 each XORed with 01, raw: 4 broken, "more than one".
    ∷ raw_stores sh₅ cleared_0 1 0 (0x03 ∷ []) flipped_0_1
    ∷ counts sh₅ flipped_0_1 4 4
    ∷ finds sh₅ flipped_0_1 Several
    -- P11. (3,9) prices: 27, 9, 18, 11.
    ∷ costs 3 9 27 9 18 11
    -- Beyond the paper. The smaller number is first where both walks are n/2; bits are counted, not bytes.
    ∷ is_first 6 0 3 0
    ∷ is_first 6 3 0 0
    ∷ counts sh₅ (woven (five 0xFE 0x02 0x04 0x08 0x10) parity) 2 16
    ∷ counts (shape 2 5 2) (0 ∷ 3 ∷ replicate 18 0) 2 4
    -- Fill of P6's column 0 into a buffer of four bytes; of a column that survives; and of one where the survivors disagree.
    ∷ fills sh₅ lost_0_2 (Two 0 2) 0 (0xAA ∷ 0xBB ∷ 0xCC ∷ 0xDD ∷ []) (0x01 ∷ 0x12 ∷ 0xCC ∷ 0xDD ∷ [])
    ∷ fills sh₅ lost_0_2 (Two 0 2) 1 (0xAA ∷ 0xBB ∷ []) (0xAA ∷ 0xBB ∷ [])
    ∷ fills sh₅ flipped_0_1 (One 0) 0 (0xAA ∷ 0xBB ∷ []) (0x01 ∷ 0x13 ∷ [])
    -- Choose: the survivor from the stripe, the lost column from the buffer, nothing where the buffer is short.
    ∷ chooses sh₅ lost_0_2 (Two 0 2) 1 (0xAA ∷ 0xBB ∷ []) (0x02 ∷ 0x05 ∷ [])
    ∷ chooses sh₅ lost_0_2 (Two 0 2) 2 (0xAA ∷ 0xBB ∷ 0xCC ∷ []) (0xAA ∷ 0xBB ∷ [])
    ∷ chooses sh₅ lost_0_2 Losses.None 1 (0xAA ∷ []) []
    -- Column: 3 of P5, and one that is not there.
    ∷ hands_out sh₅ stripe₅ 3 (0x08 ∷ 0x14 ∷ [])
    ∷ hands_out sh₅ stripe₅ 5 []
    -- Stock: the third entry, and a number over 9.
    ∷ stocks 2 (Ok (shape 3 9 512))
    ∷ stocks 10 (Err NoSuchStock)
    -- The job program: the session of document 01, whole.
    ∷ prints start session stripe₅ session_lines
    -- A rebuild of three columns before any shape is 14, not 13; a kind that is none is 11; a short shape is 13, before any shape too.
    ∷ prints start (0x03 ∷ 0x00 ∷ 0x06 ∷ 0x00 ∷ 0x03 ∷ []) stripe₅ (five 1 6 14 0 0 ∷ [])
    ∷ prints start (0x03 ∷ 0x00 ∷ 0x07 ∷ 0x00 ∷ 0x03 ∷ []) stripe₅ (five 1 7 11 0 0 ∷ [])
    ∷ prints start (0x03 ∷ 0x00 ∷ 0x01 ∷ 0x00 ∷ 0x02 ∷ []) stripe₅ (five 1 1 13 0 0 ∷ [])
    -- A client's record is skipped and counts; a stray byte behind it is 12.
    ∷ prints start (0x02 ∷ 0x00 ∷ 0x00 ∷ 0x80 ∷ 0x02 ∷ []) stripe₅ ([] ∷ five 2 0 12 0 0 ∷ [])
    -- A refused shape, (2,4), leaves the old one: the check behind it is of (2,5).
    ∷ prints (after 1) (0x06 ∷ 0x00 ∷ 0x01 ∷ 0x00 ∷ 0x02 ∷ 0x04 ∷ 0x01 ∷ 0x00 ∷ 0x02 ∷ 0x00 ∷ 0x04 ∷ 0x00 ∷ []) stripe₅ (five 2 1 2 0 0 ∷ five 3 4 0 0 0 ∷ [])
    ∷ []

abbrev pub All : List Case → Type 0
All [] = Unit {0}
All (c ∷ rest) = Holds c × All rest

-- every case on the list holds
abbrev pub CasesHold : Type 0
CasesHold = All cases

-- the job program prints one list of lines for an input
abbrev pub OnePrintout : Type 0
OnePrintout = (st : State) (input s : List ℕ) (room : ℕ) (lines lines₂ : List (List ℕ)) → Prints st input s room lines → Prints st input s room lines₂
    → lines ≡ lines₂
