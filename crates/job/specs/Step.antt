-- ONE STEP OF THE JOB PROGRAM (document 01): the state st, what is left of the input, the stripe's buffer s and a workspace of `room` bytes, whatever it holds;
-- r is what the step comes to, s' and work' the buffers as left. Definitions only.
use Rattle.std.specs.Prelude.{◌≡◌, ℕ, ◌+◌, ◌%◌, ◌<◌, true, false, List, length, Option, None, Some}
use Rattle.rebuild.specs.Rebuild.{Cleared}
use Rattle.records.specs.Record.{counted, kind_of, payload, Unframed, Clients}
use Rattle.line.specs.declared.Line.{Line}
use Rattle.kinds.specs.declared.Told.{Told}
use Rattle.kinds.specs.declared.Deed.{Deed}
use Rattle.kinds.specs.Kinds.{skipped, TellsOf}
use Rattle.job.specs.declared.State.{State}
use Rattle.job.specs.declared.Turn.{Turn}

-- "record number from 1 (skipped records count)"; after 2⁶⁴ - 1 records it is 0 again
unfoldable pub next : ℕ → ℕ
next records = (records + 1) % 18446744073709551616

-- the line of a record, if it tells anything: its number, its kind, and what is told
abbrev pub line_of : ℕ → ℕ → Option Told → Option Line
line_of number kind None = None
line_of number kind (Some told) = Some (record { number = number; kind = kind; answer = told.answer; x = told.x; y = told.y })

-- the answer that a line gives; 0 where there is no line
abbrev pub answer_on : Option Line → ℕ
answer_on None = 0
answer_on (Some line) = line.answer

-- the step of the next record, of this kind and length, from what it comes to; the kind is told of a record without a line too
unfoldable pub step_of : State → ℕ → Deed → ℕ → Turn
step_of st kind d taken = record {
  state = record { held = d.held; records = next st.records };
  kind = kind;
  line = line_of (next st.records) kind d.told;
  taken = taken;
  stops = false;
}

-- 12: "kind printed as 0, program stops"
unfoldable pub stopped : State → ℕ → Turn
stopped st taken = record {
  state = record { held = st.held; records = next st.records };
  kind = 0;
  line = Some (record { number = next st.records; kind = 0; answer = 12; x = 0; y = 0 });
  taken = taken;
  stops = true;
}

-- "Clean end of input prints nothing."
unfoldable pub ended : State → Turn
ended st = record {
  state = st;
  kind = 0;
  line = None;
  taken = 0;
  stops = true;
}

pub record Stepped (st : State) (input s : List ℕ) (room : ℕ) (r : Turn) (s' work' : List ℕ) : Type 0 where
  pub end : length input ≡ 0 → (r ≡ ended st) × (s' ≡ s)
  pub broken : 0 < length input → Unframed input → (r ≡ stopped st (length input)) × (s' ≡ s)
  pub client : ¬ Unframed input → Clients (kind_of input) → (r ≡ step_of st (kind_of input) (skipped st.held) (2 + counted input)) × (s' ≡ s)
  pub known : ¬ Unframed input → ¬ Clients (kind_of input)
      → (d : Deed) × TellsOf (kind_of input) st.held (payload input) s room d s' work' × (r ≡ step_of st (kind_of input) d (2 + counted input))
  pub cleared : Cleared room work'
