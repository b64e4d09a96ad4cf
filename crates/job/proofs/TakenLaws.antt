-- How much of the input a step takes. To cite: taken_within.
use Rattle.std.proofs.Common.{◌≡◌, ℕ, ◌+◌, ◌<◌, ◌≤◌, List, length, ap, inl, inr, ⊎_elim, arith}
use native.Mathlib.Decide.{dec_le}
use Rattle.records.specs.Record.{counted, kind_of, Unframed, Clients}
use Rattle.job.specs.declared.State.{State}
use Rattle.job.specs.declared.Turn.{Turn}
use Rattle.job.specs.Step.{step_of, stopped, ended, Stepped}

-- no more than there is
pub taken_within : {st : State} {input s : List ℕ} {room : ℕ} {r : Turn} {s' work' : List ℕ} → Stepped st input s room r s' work' → r.taken ≤ length input
unfolding step_of stopped ended
taken_within {st} {input} {s} {room} {r} {s'} {work'} h = some (dec_le 1 (length input)) where
  taken : {q : Turn} → r ≡ q → r.taken ≡ q.taken
  taken e = ap (λ (p : Turn). p.taken) e

  -- a record that is whole
  whole : ¬ Unframed input → 2 + counted input ≤ length input → r.taken ≤ length input
  whole f l = known (dec_le 32768 (kind_of input)) where
    known : Dec (Clients (kind_of input)) → r.taken ≤ length input
    known (yes k) = omega (arith, taken (h.client f k).0)
    known (no k) = omega (arith, taken (h.known f k).2)

  -- a record at all
  framed : 0 < length input → Dec (2 ≤ length input) → Dec (2 ≤ counted input) → Dec (counted input ≤ 4100) → Dec (2 + counted input ≤ length input) → r.taken ≤ length input
  framed z (no a) b c d = omega (arith, taken (h.broken z (inl (omega arith))).0)
  framed z (yes a) (no b) c d = omega (arith, taken (h.broken z (inr (inl (omega arith)))).0)
  framed z (yes a) (yes b) (no c) d = omega (arith, taken (h.broken z (inr (inr (inl (omega arith))))).0)
  framed z (yes a) (yes b) (yes c) (no d) = omega (arith, taken (h.broken z (inr (inr (inr (omega arith))))).0)
  framed z (yes a) (yes b) (yes c) (yes d) =
      whole (λ u. ⊎_elim (λ x. absurd (omega arith)) (λ u. ⊎_elim (λ x. absurd (omega arith)) (λ u. ⊎_elim (λ x. absurd (omega arith)) (λ x. absurd (omega arith)) u) u) u) d

  some : Dec (1 ≤ length input) → r.taken ≤ length input
  some (yes z) = framed z (dec_le 2 (length input)) (dec_le 2 (counted input)) (dec_le (counted input) 4100) (dec_le (2 + counted input) (length input))
  some (no z) = omega (arith, taken (h.end (omega arith)).0)
