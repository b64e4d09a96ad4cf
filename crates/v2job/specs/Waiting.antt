-- WHERE BYTES WAIT in the program's two buffers: input that was read and not yet taken, lines that were made and not yet written. Definitions only.
use Rattle.std.specs.Prelude.{◌≡◌, ◌⊎◌, true, not, ◌&&◌, Option, None, Some, List, ◌++◌, ℕ, ◌+◌, ◌-◌, ◌≤◌, length, take, drop}
use Rattle.line.specs.declared.Line.{Line}
use Rattle.job.specs.declared.Turn.{Turn}
use Rattle.line.specs.Printed.{text, longest_line}
use Rattle.job.specs.Step.{Stepped}
use Rattle.v2job.specs.declared.Feed.{Feed}
use Rattle.v2job.specs.declared.Shelf.{Shelf}
use Rattle.v2job.specs.declared.Run.{Run}

-- the longest record: a length of two bytes, then at most 4,100
abbrev pub longest_record : ℕ
longest_record = 4102

-- the input that waits is inside its buffer, and the longest record has room there
pub record Waits (f : Feed) (room : ℕ) : Type 0 where
  pub from : f.start ≤ f.end
  pub to : f.end ≤ room
  pub roomy : longest_record ≤ room

-- the bytes that wait in the buffer s
abbrev pub waiting : Feed → List ℕ → List ℕ
waiting f s = take (f.end - f.start) (drop f.start s)

-- what waited still waits, before what was read; and if more may follow, then the longest record waits
pub record Refilled (f : Feed) (s : List ℕ) (f' : Feed) (s' : List ℕ) : Type 0 where
  pub waits : Waits f' (length s')
  pub kept : take (f.end - f.start) (waiting f' s') ≡ waiting f s
  pub enough : f'.open ≡ true → f'.start + longest_record ≤ f'.end

-- the lines that wait are inside their buffer, and the longest line has room there
pub record Collects (f : Shelf) (room : ℕ) : Type 0 where
  pub to : f.filled ≤ room
  pub roomy : longest_line ≤ room

-- the same lines wait, or none; and the longest line has room after them
pub record Ready (f f' : Shelf) (room : ℕ) : Type 0 where
  pub same : (f'.filled ≡ f.filled) ⊎ (f'.filled ≡ 0)
  pub roomy : f'.filled + longest_line ≤ room

-- the line l waits after those that waited, or alone
pub record Added (l : Line) (f : Shelf) (s : List ℕ) (f' : Shelf) (s' : List ℕ) : Type 0 where
  pub collects : Collects f' (length s')
  pub from : ℕ
  pub since : (from ≡ f.filled) ⊎ (from ≡ 0)
  pub lines : take f'.filled s' ≡ take from s ++ text l

-- a line is added; without one everything stays as it was
abbrev pub Shows : Option Line → Shelf → List ℕ → Shelf → List ℕ → Type 0
Shows (Some l) f s f' s' = Added l f s f' s'
Shows None f s f' s' = (f' ≡ f) × (s' ≡ s)

-- all that waits is inside its buffer
pub record Goes (r : Run) (input output : ℕ) : Type 0 where
  pub waits : Waits r.feed input
  pub collects : Collects r.shelf output

-- one turn of the program is one step on the input that waits, `fed`; the state is the step's, the bytes that it took no longer wait, and its line does
pub record Turned (run : Run) (input output stripe : List ℕ) (room : ℕ) (r : Run) (input' output' stripe' work' : List ℕ) : Type 0 where
  pub goes : Goes r (length input') (length output')
  pub fed : Feed
  pub refilled : Refilled run.feed input fed input'
  pub step : Turn
  pub stepped : Stepped run.state (waiting fed input') stripe room step stripe' work'
  pub state : r.state ≡ step.state
  pub start : r.feed.start ≡ fed.start + step.taken
  pub end : r.feed.end ≡ fed.end
  pub more : r.feed.open ≡ fed.open
  pub shows : Shows step.line run.shelf output r.shelf output'
  pub goes_on : r.running ≡ not step.stops && r.shelf.open
