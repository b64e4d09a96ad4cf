-- WITNESSES. For each theorem that has hypotheses, values that meet all of them together: none is a theorem about nothing. `XMeets` lists the hypotheses
-- of the theorem `X` at such values, most of them the small stripes of specs/Cases.antt; also those under which a theorem says a part of what it says. What is
-- said of numbers alone, as 0 < 5, is left out. The hypotheses of specs/OneAnswer.antt are the contracts themselves: `SomeAnswer` is their witness.
-- Proof: proofs/Witnesses.antt; that the lists are the theorems' hypotheses, and all of them: proofs/Taken.antt.
use Rattle.std.specs.Prelude.{◌≡◌, ◌≢◌, List, [], ◌∷◌, ℕ, zero, suc, ◌<◌, length, replicate, Ok, Err}
use Rattle.answer.specs.declared.Refusal.TheVariants.{BadBuffer, Disagree}
use Rattle.shape.specs.Good.{Good, size, shape}
use Rattle.shape.specs.Place.{height}
use Rattle.shape.specs.Step.{left, right}
use Rattle.answer.specs.Answers.{Answer, First, Applies, Rises}
use Rattle.shape.specs.Refusals.{shape_table}
use Rattle.rule.specs.declared.Losses.TheVariants.{None, One, Two}
use Rattle.rule.specs.Rule.{Obeys}
use Rattle.rule.specs.Losses.{Beyond, Twice, Agrees, Bytes, Solves, Disagrees}
use Rattle.rule.specs.Outer.{walk, first, second, Outer}
use Rattle.locating.specs.Locate.{Mends, Explains}
use Rattle.writing.specs.Write.{SmallWrite}
use Rattle.rebuild.specs.Rebuild.{OtherwiseGood, Rebuild, Cleared}
use Rattle.filling.specs.Fill.{Fill}
use Rattle.filling.specs.Choose.{Choose}
use Rattle.job.specs.declared.State.{State}
use Rattle.job.specs.declared.Turn.{Turn}
use Rattle.records.specs.Record.{kind_of, payload, Unframed, Clients}
use Rattle.kinds.specs.Kinds.{shaping, rebuilding, kind_number, Unknown, Early, Wrong}
use Rattle.job.specs.Step.{answer_on, Stepped}
use Rattle.demands.specs.Sequences.{Buffers, rebuild, job, answered, stepped, Served, World, Event, Step, History, asked}
use Rattle.demands.specs.Demands.{Lends}
use Rattle.demands.specs.Cases.{woven, five, sh₅, stripe₅, lost_0_2, lost_4_0, cleared_0, flipped_0_1, Prints, start, after, session, session_lines}

-- ---- rebuilds

-- a workspace of 2·m·w bytes as somebody left it, and a clear one
abbrev pub dirty : List ℕ
dirty = 0xC0 ∷ 0xDE ∷ 0x00 ∷ 0x7F ∷ []

abbrev pub zeros : List ℕ
zeros = replicate 4 0

-- P6's is done. One of P9's stripe is refused: its damage is in column 0, and column 3 is named lost.
abbrev pub Done₆ : Type 0
Done₆ = Rebuild sh₅ (Two 0 2) lost_0_2 4 (Ok tt) stripe₅ zeros

abbrev pub Refused₉ : Type 0
Refused₉ = Rebuild sh₅ (One 3) cleared_0 4 (Err Disagree) cleared_0 zeros

-- P9's stripe with other bytes in column 3
unfoldable pub cleared_0_lost_3 : List ℕ
cleared_0_lost_3 = woven (five 0x00 0x02 0x04 0xEE 0x10) (five 0x12 0x05 0x0A 0xEE 0x09)

-- ---- clients

-- buffer 0 is x, and the others are empty
abbrev pub only : List ℕ → ℕ → List ℕ
only x zero = x
only x (suc k) = []

-- a client that has a stripe and an input, and whose job program stands at st
abbrev pub client_with : List ℕ → List ℕ → State → Buffers
client_with s input st = record { stripes = only s; symbols = only []; answers = only []; inputs = only input; state = st }

-- client 0 has the stripe s, and every other client z
abbrev pub clients : List ℕ → List ℕ → ℕ → Buffers
clients s z zero = client_with s [] start
clients s z (suc c) = client_with z [] start

abbrev pub world : List ℕ → List ℕ → List ℕ → World
world s z work = record { own = clients s z; work = work }

-- the two rebuilds as calls: client 0's, beside others who have z, and client 1's, beside a client 0 who has s
abbrev pub done_0 : List ℕ → Event
done_0 z = record { client = 0; request = rebuild sh₅ (Two 0 2) 0; reply = answered (Ok tt); after = world stripe₅ z zeros }

abbrev pub refused_1 : List ℕ → Event
refused_1 s = record { client = 1; request = rebuild sh₅ (One 3) 0; reply = answered (Err Disagree); after = world s cleared_0 zeros }

-- client 1 is refused, then client 0's rebuild is done in the same workspace
abbrev pub both : List Event
both = refused_1 lost_0_2 ∷ done_0 cleared_0 ∷ []

-- ---- DEMAND 1

-- the refused rebuild, in a workspace that is not clear
abbrev pub RefusedChangesNothingMeets : Type 0
RefusedChangesNothingMeets = ◌≢◌ {A = Answer} (Err Disagree) (Ok tt)
    × Served (rebuild sh₅ (One 3) 0) (client_with cleared_0 [] start) dirty (answered (Err Disagree)) (client_with cleared_0 [] start) zeros

-- the shape (2,4), while (2,5) is held
abbrev pub shape_2_4 : List ℕ
shape_2_4 = 0x06 ∷ 0x00 ∷ 0x01 ∷ 0x00 ∷ 0x02 ∷ 0x04 ∷ 0x01 ∷ 0x00 ∷ []

abbrev pub RefusedStepMeets : Type 0
RefusedStepMeets = (r : Turn) × (answer_on r.line ≢ 0)
    × Served (job 0 0 0) (client_with stripe₅ shape_2_4 (after 1)) dirty (stepped r) (client_with stripe₅ shape_2_4 (after 2)) zeros

-- after a refused call, and after one that was done
abbrev pub ZeroAfterMeets : Type 0
ZeroAfterMeets = (Lends (refused_1 lost_0_2).request × Step (world lost_0_2 cleared_0 dirty) (refused_1 lost_0_2))
    × Lends (done_0 cleared_0).request × Step (world lost_0_2 cleared_0 dirty) (done_0 cleared_0)

-- ---- DEMAND 2

-- P6
abbrev pub ComesBackMeets : Type 0
ComesBackMeets = OtherwiseGood sh₅ (Two 0 2) lost_0_2 4 × (length stripe₅ ≡ length lost_0_2) × Bytes stripe₅ × Obeys sh₅ stripe₅
    × Agrees sh₅ (Two 0 2) lost_0_2 stripe₅ × Done₆

-- done, and refused
abbrev pub RebuildExactlyMeets : Type 0
RebuildExactlyMeets = (Done₆ × OtherwiseGood sh₅ (Two 0 2) lost_0_2 4 × Solves sh₅ (Two 0 2) lost_0_2 stripe₅)
    × Refused₉ × OtherwiseGood sh₅ (One 3) cleared_0 4 × Disagrees sh₅ (One 3) cleared_0

-- P6 again
abbrev pub OneStripeMeets : Type 0
OneStripeMeets = Good sh₅ × (¬ Beyond 5 (Two 0 2)) × (¬ Twice (Two 0 2)) × (length lost_0_2 ≡ size sh₅) × Solves sh₅ (Two 0 2) lost_0_2 stripe₅

abbrev pub EitherOrderMeets : Type 0
EitherOrderMeets = Done₆

-- P9
abbrev pub OneExplainsMeets : Type 0
OneExplainsMeets = Good sh₅ × (length cleared_0 ≡ size sh₅) × Bytes cleared_0 × (¬ Obeys sh₅ cleared_0) × Explains sh₅ cleared_0 0

abbrev pub OneDamagedColumnMeets : Type 0
OneDamagedColumnMeets = Good sh₅ × (length cleared_0 ≡ size sh₅) × (¬ Obeys sh₅ cleared_0) × Mends sh₅ cleared_0 0

-- ---- DEMAND 3

-- client 0's rebuild behind client 1's call in a workspace that is not clear; and without that call, in a clear one, client 1 having another stripe
abbrev pub AloneMeets : Type 0
AloneMeets = History (world lost_0_2 cleared_0 dirty) both × History (world lost_0_2 flipped_0_1 zeros) (done_0 flipped_0_1 ∷ [])
    × (length dirty ≡ length zeros) × (clients lost_0_2 cleared_0 0 ≡ clients lost_0_2 flipped_0_1 0) × (asked 0 both ≡ asked 0 (done_0 flipped_0_1 ∷ []))

abbrev pub AsIfAloneMeets : Type 0
AsIfAloneMeets = History (world lost_0_2 cleared_0 dirty) both × (length dirty ≡ length zeros)
    × (clients lost_0_2 cleared_0 0 ≡ clients lost_0_2 flipped_0_1 0)

-- accepted, and refused; in each the two stripes are not the same
abbrev pub OldBytesMeets : Type 0
OldBytesMeets = ((lost_0_2 ≢ stripe₅) × (length lost_0_2 ≡ length stripe₅) × Agrees sh₅ (Two 0 2) lost_0_2 stripe₅
    × Done₆ × Rebuild sh₅ (Two 0 2) stripe₅ 4 (Ok tt) stripe₅ zeros)
    × (cleared_0 ≢ cleared_0_lost_3) × (length cleared_0 ≡ length cleared_0_lost_3) × Agrees sh₅ (One 3) cleared_0 cleared_0_lost_3
    × Refused₉ × Rebuild sh₅ (One 3) cleared_0_lost_3 4 (Err Disagree) cleared_0_lost_3 zeros

-- with a refused call among them
abbrev pub NoResidueMeets : Type 0
NoResidueMeets = History (world lost_0_2 cleared_0 zeros) both × Cleared 4 zeros

-- ---- the reading of the words: refusals, locate, small write

-- P3: (2,4) is refused 2
abbrev pub FirstIsLowestMeets : Type 0
FirstIsLowestMeets = Rises 0 (shape_table (shape 2 4 1)) × First (shape_table (shape 2 4 1)) 2 × Applies (shape_table (shape 2 4 1)) 2

abbrev pub ExplainsIsMendsMeets : Type 0
ExplainsIsMendsMeets = OneExplainsMeets × Mends sh₅ cleared_0 0

-- P8: of the parities 3 is to the left of column 4, 0 to the right, and 1 is neither
abbrev pub TwoParitiesMeets : Type 0
TwoParitiesMeets = SmallWrite sh₅ stripe₅ 4 0 (0xFF ∷ []) (Ok tt) (woven (five 0x01 0x02 0x04 0x08 0xFF) (five 0xFD 0x05 0x0A 0xFB 0x09))
    × (3 ≡ left 5 4 (height sh₅ 0)) × (0 ≡ right 5 4 (height sh₅ 0)) × (1 ≢ left 5 4 (height sh₅ 0)) × (1 ≢ right 5 4 (height sh₅ 0))

-- ---- the outer-chain order: one lost column where the survivors disagree; and P7, in which height 0 asks for height 1, the walk being 1

abbrev pub SolvedFromMeets : Type 0
SolvedFromMeets = Good sh₅ × ((x : List ℕ) × Outer sh₅ (One 0) flipped_0_1 x)
    × (4 ≡ first 5 4 0) × (0 ≡ second 5 4 0) × (1 ≡ walk 5 4 0) × Outer sh₅ (Two 4 0) lost_4_0 stripe₅

-- with `SomeOuter`, which has no `Outer` among its hypotheses
abbrev pub OneOuterMeets : Type 0
OneOuterMeets = Good sh₅ × (¬ Beyond 5 (Two 4 0)) × (¬ Twice (Two 4 0)) × (length lost_4_0 ≡ size sh₅) × Outer sh₅ (Two 4 0) lost_4_0 stripe₅

-- ---- column read: column 0 of P6, in a buffer of four bytes

abbrev pub lent : List ℕ
lent = 0xAA ∷ 0xBB ∷ 0xCC ∷ 0xDD ∷ []

abbrev pub filled : List ℕ
filled = 0x01 ∷ 0x12 ∷ 0xCC ∷ 0xDD ∷ []

abbrev pub FillIsRebuildMeets : Type 0
FillIsRebuildMeets = Done₆ × Outer sh₅ (Two 0 2) lost_0_2 stripe₅

abbrev pub FillEitherOrderMeets : Type 0
FillEitherOrderMeets = Fill sh₅ lost_0_2 (Two 0 2) 0 lent (Ok tt) filled

abbrev pub FillThenChooseMeets : Type 0
FillThenChooseMeets = Done₆ × Fill sh₅ lost_0_2 (Two 0 2) 0 lent (Ok tt) filled × Choose sh₅ lost_0_2 (Two 0 2) 0 filled (0x01 ∷ 0x12 ∷ [])

-- a part, and none
abbrev pub ChooseEmptyMeets : Type 0
ChooseEmptyMeets = (Choose sh₅ lost_0_2 (Two 0 2) 0 lent (0xAA ∷ 0xBB ∷ []) × Fill sh₅ lost_0_2 (Two 0 2) 0 lent (Ok tt) filled)
    × Choose sh₅ lost_0_2 None 1 (0xAA ∷ []) [] × Fill sh₅ lost_0_2 None 1 (0xAA ∷ []) (Err BadBuffer) (0xAA ∷ [])

-- ---- the job program: a step from its start

abbrev pub SomeStep : List ℕ → Type 0
SomeStep input = (r : Turn) × (s' work' : List ℕ) × Stepped start input stripe₅ 4 r s' work'

-- a stray byte; a record with a payload of one byte, 3, which is wrong for kinds 1 and 6; a client's record
abbrev pub stray : List ℕ
stray = 0x02 ∷ []

abbrev pub of_kind : ℕ → List ℕ
of_kind k = 0x03 ∷ 0x00 ∷ k ∷ 0x00 ∷ 0x03 ∷ []

abbrev pub of_client : List ℕ
of_client = 0x02 ∷ 0x00 ∷ 0x00 ∷ 0x80 ∷ []

-- 12, 11, 14, 13
abbrev pub ProgramOrderMeets : Type 0
ProgramOrderMeets = (SomeStep stray × (0 < length stray) × Unframed stray)
    × (SomeStep (of_kind 7) × (¬ Unframed (of_kind 7)) × (¬ Clients (kind_of (of_kind 7))) × Unknown (kind_of (of_kind 7)))
    × (SomeStep (of_kind 6) × (¬ Unframed (of_kind 6)) × (kind_of (of_kind 6) ≡ kind_number rebuilding) × Early rebuilding start.held)
    × SomeStep (of_kind 1) × (¬ Unframed (of_kind 1)) × (kind_of (of_kind 1) ≡ kind_number shaping) × (¬ Early shaping start.held)
    × Wrong shaping (payload (of_kind 1))

-- a line for a stray byte and for a record of the program's; none at the end and for a client's record
abbrev pub LineForEachMeets : Type 0
LineForEachMeets = (SomeStep stray × (0 < length stray) × Unframed stray)
    × (SomeStep session × (0 < length session) × (¬ Clients (kind_of session)))
    × SomeStep [] × SomeStep of_client × (¬ Unframed of_client) × Clients (kind_of of_client)

abbrev pub OnePrintoutMeets : Type 0
OnePrintoutMeets = Prints start session stripe₅ 4 session_lines

-- ---- all of them

abbrev pub Witnessed : Type 0
Witnessed = RefusedChangesNothingMeets × RefusedStepMeets × ZeroAfterMeets
    × ComesBackMeets × RebuildExactlyMeets × OneStripeMeets × EitherOrderMeets × OneExplainsMeets × OneDamagedColumnMeets
    × AloneMeets × AsIfAloneMeets × OldBytesMeets × NoResidueMeets
    × FirstIsLowestMeets × ExplainsIsMendsMeets × TwoParitiesMeets × SolvedFromMeets × OneOuterMeets
    × FillIsRebuildMeets × FillEitherOrderMeets × FillThenChooseMeets × ChooseEmptyMeets
    × ProgramOrderMeets × LineForEachMeets × OnePrintoutMeets
