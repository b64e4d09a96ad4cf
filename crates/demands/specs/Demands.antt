-- THE DEMANDS, each as one statement over the contracts. Proofs: proofs/, the same names in small letters.
use Rattle.std.specs.Prelude.{◌≡◌, ◌≢◌, ◌⊎◌, List, ℕ, ◌<◌, length, Ok, Err}
use Rattle.shape.specs.declared.Shape.{Shape}
use Rattle.answer.specs.Answers.{Answer}
use Rattle.answer.specs.declared.Refusal.TheVariants.{Disagree}
use Rattle.shape.specs.Good.{Good, size}
use Rattle.rule.specs.declared.Losses.{Losses}
use Rattle.rule.specs.declared.Losses.TheVariants.{Two}
use Rattle.rule.specs.Rule.{Obeys}
use Rattle.rule.specs.Losses.{Beyond, Twice, Agrees, Bytes, Solves, Disagrees}
use Rattle.locating.specs.Locate.{Mends, Explains}
use Rattle.rebuild.specs.Rebuild.{OtherwiseGood, Rebuild, Cleared}
use Rattle.job.specs.declared.Turn.{Turn}
use Rattle.job.specs.Step.{answer_on}
use Rattle.demands.specs.Sequences.{Buffers, Request, encode, check, locate, small_write, raw_store, rebuild, read_column, fill, choose, prices, stock, job, answered, stepped, Served, World, Event, Step, History, final, asked, saw, OnlyOf}

-- ---- DEMAND 1. "Every call ends and answers for all inputs": that is the language's; which answer: specs/OneAnswer.antt.

-- "A refused call changes no stripe", no answer buffer, and nothing else that the client has.
abbrev pub RefusedChangesNothing : Type 0
RefusedChangesNothing = (q : Request) (own own' : Buffers) (work work' : List ℕ) (a : Answer) → a ≢ Ok tt → Served q own work (answered a) own' work'
    → own' ≡ own

-- The same of a step of the job program, whose answer stands on its line; it goes on by a record. And so: "A refused shape leaves the old one."
abbrev pub RefusedStep : Type 0
RefusedStep = (i from s : ℕ) (own own' : Buffers) (work work' : List ℕ) (r : Turn) → answer_on r.line ≢ 0
    → Served (job i from s) own work (stepped r) own' work'
    → (own'.stripes ≡ own.stripes) × (own'.symbols ≡ own.symbols) × (own'.answers ≡ own.answers) × (own'.inputs ≡ own.inputs)
    × (own'.state.held ≡ own.state.held)

-- the calls that are lent the workspace
abbrev pub Lends : Request → Type 0
Lends (encode sh s) = ⊥
Lends (check sh s) = ⊥
Lends (locate sh s) = ⊥
Lends (small_write sh s c i x) = ⊥
Lends (raw_store sh s c i x) = ⊥
Lends (rebuild sh lost s) = Unit {0}
Lends (read_column sh s c) = ⊥
Lends (fill sh s lost c b) = ⊥
Lends (choose sh s lost c b) = ⊥
Lends (prices sh) = ⊥
Lends (stock i) = ⊥
Lends (job i from s) = Unit {0}

-- "A workspace that is lent comes back all zero after every call, refused or not", whatever it held before.
abbrev pub ZeroAfter : Type 0
ZeroAfter = (before : World) (e : Event) → Lends e.request → Step before e → Cleared (length before.work) e.after.work

-- ---- DEMAND 2

-- A stripe that obeys the rule comes back: lose none, one or two of its columns, whatever stands there then, and rebuild.
abbrev pub ComesBack : Type 0
ComesBack = (sh : Shape) (lost : Losses) (s hurt : List ℕ) (room : ℕ) → OtherwiseGood sh lost hurt room
    → length s ≡ length hurt → Bytes s → Obeys sh s → Agrees sh lost hurt s
    → (a : Answer) (x u : List ℕ) → Rebuild sh lost hurt room a x u → (a ≡ Ok tt) × (x ≡ s)

-- "A rebuild of none, one or two columns yields the only stripe that obeys the rule and agrees with the survivors; survivors disagree is
-- answered exactly when, the call being otherwise good, there is no such stripe."
abbrev pub RebuildExactly : Type 0
RebuildExactly = (sh : Shape) (lost : Losses) (s : List ℕ) (room : ℕ) (a : Answer) (x u : List ℕ) → Rebuild sh lost s room a x u
    → (a ≡ Err Disagree → OtherwiseGood sh lost s room × Disagrees sh lost s)
    × (OtherwiseGood sh lost s room → Disagrees sh lost s → a ≡ Err Disagree)
    × (a ≡ Ok tt → OtherwiseGood sh lost s room × Solves sh lost s x)
    × (OtherwiseGood sh lost s room → (y : List ℕ) → Solves sh lost s y → (a ≡ Ok tt) × (x ≡ y))
    × (OtherwiseGood sh lost s room → (a ≡ Ok tt) ⊎ (a ≡ Err Disagree))

-- "the only stripe that obeys the rule and agrees with the survivors"
abbrev pub OneStripe : Type 0
OneStripe = (sh : Shape) → Good sh → (lost : Losses) → ¬ Beyond sh.n lost → ¬ Twice lost → (s x y : List ℕ) → length s ≡ size sh
    → Solves sh lost s x → Solves sh lost s y → x ≡ y

-- "The order in which two columns are named makes no difference."
abbrev pub EitherOrder : Type 0
EitherOrder = (sh : Shape) (a b : ℕ) (s : List ℕ) (room : ℕ) (r : Answer) (x u : List ℕ) → Rebuild sh (Two a b) s room r x u → Rebuild sh (Two b a) s room r x u

-- locate: "It reports the first column that explains every difference; that no other column does is to be proved"
abbrev pub OneExplains : Type 0
OneExplains = (sh : Shape) → Good sh → (s : List ℕ) → length s ≡ size sh → Bytes s → ¬ Obeys sh s
    → (c e : ℕ) → c < sh.n → e < sh.n → Explains sh s c → Explains sh s e → c ≡ e

-- the same of a change within a column that makes the stripe sound
abbrev pub OneDamagedColumn : Type 0
OneDamagedColumn = (sh : Shape) → Good sh → (s : List ℕ) → length s ≡ size sh → ¬ Obeys sh s → (c e : ℕ) → Mends sh s c → Mends sh s e → c ≡ e

-- ---- DEMAND 3

-- "In any sequence of calls, drop or alter the other clients' calls and stripes, or what the workspace first held: this client's answers,
-- reports and stripes stay the same."
-- Two sequences, es from `before` and fs from `before₂`, of which nothing is asked but that client c has the same buffers at first and makes
-- the same calls, and that the workspaces are equally long: what c saw is the same, call by call, and so are its buffers at the end.
abbrev pub Alone : Type 0
Alone = (c : ℕ) (before before₂ : World) (es fs : List Event)
    → History before es → History before₂ fs
    → length before.work ≡ length before₂.work
    → before.own c ≡ before₂.own c
    → asked c es ≡ asked c fs
    → (saw c es ≡ saw c fs) × ((final before es).own c ≡ (final before₂ fs).own c)

-- And so: as if c were alone. Whatever the others did, there is a sequence of c's calls only, from any state in which c's buffers are the same,
-- the others' are anything, and the workspace holds anything, in which c asks the same and sees the same.
abbrev pub AsIfAlone : Type 0
AsIfAlone = (c : ℕ) (before before₂ : World) (es : List Event) → History before es
    → length before.work ≡ length before₂.work → before.own c ≡ before₂.own c
    → (fs : List Event) × History before₂ fs × OnlyOf c fs × (asked c fs ≡ asked c es) × (saw c fs ≡ saw c es)

-- "in one rebuild, alter at will the old bytes of the columns named lost: the answer is the same, and if it is accepted so is the whole
-- stripe; if refused, each stripe stays as lent."
abbrev pub OldBytes : Type 0
OldBytes = (sh : Shape) (lost : Losses) (s s₂ : List ℕ) (room : ℕ) (a b : Answer) (x y u v : List ℕ)
    → length s ≡ length s₂ → Agrees sh lost s s₂
    → Rebuild sh lost s room a x u → Rebuild sh lost s₂ room b y v
    → (a ≡ b) × (a ≡ Ok tt → x ≡ y) × (a ≢ Ok tt → (x ≡ s) × (y ≡ s₂))

-- Clause 7: a workspace that holds nothing at first holds nothing after any sequence of calls, whoever made them and whatever was refused.
abbrev pub NoResidue : Type 0
NoResidue = (before : World) (es : List Event) → History before es → Cleared (length before.work) before.work
    → Cleared (length before.work) (final before es).work
