-- SEQUENCES OF CALLS (demand 3): clients, their buffers, one shared workspace, and what it is for a call to be served by its contract.
-- Definitions only.
-- What the language gives: a call is a step because its `ensures` is the contract named here, the checker having proved it of the code for all
-- inputs; and a function can touch nothing that it was not lent, so that what a step does not name is as it was.
use Rattle.std.specs.Prelude.{◌≡◌, ◌≢◌, Bool, true, false, List, [], ◌∷◌, ℕ, length, drop, eqb, Result}
use Rattle.shape.specs.declared.Shape.{Shape}
use Rattle.answer.specs.declared.Refusal.{Refusal}
use Rattle.answer.specs.Answers.{Answer}
use Rattle.stock.specs.declared.Priced.{Priced}
use Rattle.stock.specs.Prices.{Prices}
use Rattle.stock.specs.Stock.{Stock}
use Rattle.rule.specs.declared.Losses.{Losses}
use Rattle.checking.specs.declared.Checked.{Checked}
use Rattle.locating.specs.declared.Damage.{Damage}
use Rattle.encoding.specs.Encode.{Encode}
use Rattle.checking.specs.Check.{Check}
use Rattle.locating.specs.Locate.{Locate}
use Rattle.writing.specs.Write.{SmallWrite}
use Rattle.storing.specs.Store.{RawStore}
use Rattle.handing.specs.Column.{ColumnRead}
use Rattle.rebuild.specs.Rebuild.{Rebuild}
use Rattle.filling.specs.Fill.{Fill}
use Rattle.filling.specs.Choose.{Choose}
use Rattle.job.specs.declared.State.{State}
use Rattle.job.specs.declared.Turn.{Turn}
use Rattle.job.specs.Step.{Stepped}

-- A client's own buffers, each by its number, and where its job program stands: the shape held and how many records there were. Nobody else
-- has them: "Clients share a workspace of fixed length and no other buffer".
pub record Buffers : Type 0 where
  pub stripes : ℕ → List ℕ
  pub symbols : ℕ → List ℕ
  pub answers : ℕ → List ℕ
  pub inputs : ℕ → List ℕ
  pub state : State

-- What a client may ask. Shapes, losses, columns and rows are given; stripe, symbol, buffer and input are numbers of the client's own.
pub data Request : Type 0 where
  encode check locate : (sh : Shape) (stripe : ℕ) → Request
  small_write raw_store : (sh : Shape) (stripe column row symbol : ℕ) → Request
  rebuild : (sh : Shape) (lost : Losses) (stripe : ℕ) → Request
  read_column : (sh : Shape) (stripe column : ℕ) → Request
  fill choose : (sh : Shape) (stripe : ℕ) (lost : Losses) (column buffer : ℕ) → Request
  prices : (sh : Shape) → Request
  stock : (i : ℕ) → Request
  job : (input from stripe : ℕ) → Request  -- a step of the job program: the record that begins at this byte of the input

-- What it gets: an answer, a report, the bytes of a part, or what a step of the job program comes to.
pub data Reply : Type 0 where
  answered : Answer → Reply
  checked : Result Checked Refusal → Reply
  located : Result Damage Refusal → Reply
  handed : (part : List ℕ) → Reply
  priced : Result Priced Refusal → Reply
  stocked : Result Shape Refusal → Reply
  stepped : Turn → Reply

-- ---- what a call may change: own and work are the client's buffers and the workspace before it, own' and work' after

-- nothing; the contract is of the reply
abbrev pub Looks : {A : Type 0} → (A → Reply) → (A → Type 0) → Buffers → List ℕ → Reply → Buffers → List ℕ → Type 0
Looks {A} reply Contract own work r own' work' = (a : A) × (r ≡ reply a) × Contract a × (own' ≡ own) × (work' ≡ work)

-- of the client's buffers, stripe k alone; its job program then stands at st
pub record OnlyStripe (k : ℕ) (st : State) (own own' : Buffers) : Type 0 where
  pub stripes : (j : ℕ) → j ≢ k → own'.stripes j ≡ own.stripes j
  pub symbols : own'.symbols ≡ own.symbols
  pub answers : own'.answers ≡ own.answers
  pub inputs : own'.inputs ≡ own.inputs
  pub state : own'.state ≡ st

abbrev pub Writes : ℕ → (Answer → List ℕ → Type 0) → Buffers → List ℕ → Reply → Buffers → List ℕ → Type 0
Writes k Contract own work r own' work' =
    (a : Answer) × (r ≡ answered a) × Contract a (own'.stripes k) × OnlyStripe k own.state own own' × (work' ≡ work)

-- that, and the workspace
abbrev pub Stages : ℕ → (Answer → List ℕ → List ℕ → Type 0) → Buffers → Reply → Buffers → List ℕ → Type 0
Stages k Contract own r own' work' = (a : Answer) × (r ≡ answered a) × Contract a (own'.stripes k) work' × OnlyStripe k own.state own own'

-- that, and where its job program stands
abbrev pub GoesOn : ℕ → (Turn → List ℕ → List ℕ → Type 0) → Buffers → Reply → Buffers → List ℕ → Type 0
GoesOn k Contract own r own' work' =
    (j : Turn) × (r ≡ stepped j) × Contract j (own'.stripes k) work' × OnlyStripe k j.state own own'

-- of the client's buffers, answer buffer k alone
pub record OnlyAnswer (k : ℕ) (own own' : Buffers) : Type 0 where
  pub stripes : own'.stripes ≡ own.stripes
  pub symbols : own'.symbols ≡ own.symbols
  pub answers : (j : ℕ) → j ≢ k → own'.answers j ≡ own.answers j
  pub inputs : own'.inputs ≡ own.inputs
  pub state : own'.state ≡ own.state

abbrev pub Puts : ℕ → (Answer → List ℕ → Type 0) → Buffers → List ℕ → Reply → Buffers → List ℕ → Type 0
Puts k Contract own work r own' work' =
    (a : Answer) × (r ≡ answered a) × Contract a (own'.answers k) × OnlyAnswer k own own' × (work' ≡ work)

-- ---- each request, by the contract of its call

abbrev pub Served : Request → Buffers → List ℕ → Reply → Buffers → List ℕ → Type 0
Served (encode sh s) own work = Writes s (Encode sh (own.stripes s)) own work
Served (check sh s) own work = Looks checked (Check sh (own.stripes s)) own work
Served (locate sh s) own work = Looks located (Locate sh (own.stripes s)) own work
Served (small_write sh s c i x) own work = Writes s (SmallWrite sh (own.stripes s) c i (own.symbols x)) own work
Served (raw_store sh s c i x) own work = Writes s (RawStore sh (own.stripes s) c i (own.symbols x)) own work
Served (rebuild sh lost s) own work = Stages s (Rebuild sh lost (own.stripes s) (length work)) own
Served (read_column sh s c) own work = Looks handed (ColumnRead sh (own.stripes s) c) own work
Served (fill sh s lost c b) own work = Puts b (Fill sh (own.stripes s) lost c (own.answers b)) own work
Served (choose sh s lost c b) own work = Looks handed (Choose sh (own.stripes s) lost c (own.answers b)) own work
Served (prices sh) own work = Looks priced (Prices sh) own work
Served (stock i) own work = Looks stocked (Stock i) own work
Served (job i from s) own work = GoesOn s (Stepped own.state (drop from (own.inputs i)) (own.stripes s) (length work)) own

-- ---- sequences

-- All there is: each client's buffers, and the one workspace.
pub record World : Type 0 where
  pub own : ℕ → Buffers
  pub work : List ℕ

-- One call: whose it is, what was asked, what came back, and all there is afterwards.
pub record Event : Type 0 where
  pub client : ℕ
  pub request : Request
  pub reply : Reply
  pub after : World

-- The call is served on the client's own buffers and the workspace; nothing of any other client changes: "nobody but the service writes to any".
pub record Step (before : World) (e : Event) : Type 0 where
  pub served : Served e.request (before.own e.client) before.work e.reply (e.after.own e.client) e.after.work
  pub others : (d : ℕ) → d ≢ e.client → e.after.own d ≡ before.own d

-- A sequence of calls of any clients, each beginning where the one before it ended.
abbrev pub History : World → List Event → Type 0
History before [] = Unit {0}
History before (e ∷ rest) = Step before e × History e.after rest

-- all there is at the end
abbrev pub final : World → List Event → World
final before [] = before
final before (e ∷ rest) = final e.after rest

abbrev pub if_mine : {A : Type 0} → Bool → A → List A → List A
if_mine true x rest = x ∷ rest
if_mine false x rest = rest

-- what client c asked, in order
abbrev pub asked : ℕ → List Event → List Request
asked c [] = []
asked c (e ∷ rest) = if_mine (eqb e.client c) e.request (asked c rest)

-- what client c saw, in order: after each of its calls the reply and all its buffers
abbrev pub saw : ℕ → List Event → List (Reply × Buffers)
saw c [] = []
saw c (e ∷ rest) = if_mine (eqb e.client c) (e.reply, e.after.own c) (saw c rest)

-- every call is client c's
abbrev pub OnlyOf : ℕ → List Event → Type 0
OnlyOf c [] = Unit {0}
OnlyOf c (e ∷ rest) = (e.client ≡ c) × OnlyOf c rest
