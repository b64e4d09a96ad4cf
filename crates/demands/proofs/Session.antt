-- The cases of the job program: document 01's session, whole, and its refusals in their order.
use mathlib.Core.Path.{◌≡◌, refl}
use mathlib.Core.Logic.{inl, inr}
use mathlib.Core.Bool.{false}
use mathlib.Core.List.{List, [], ◌∷◌}
use Prim.Native.Nat.{ℕ, ◌+◌, ◌*◌, ◌≤◌}
use native.Mathlib.Omega.{arith}
use lib.ListN.{length, drop, replicate, get_or-replicate}
use lib.Count.{ones}
use Rattle.xor.specs.Xor.{◌⊕◌, xors}
use Rattle.xor.specs.Total.{total}
use Rattle.std.specs.Prelude.{None, Some, Ok, Err}
use Rattle.answer.specs.declared.Refusal.TheVariants.{Disagree}
use Rattle.shape.specs.Good.{size, shape}
use Rattle.shape.specs.Place.{height, row, slot, place, byte, column_length}
use Rattle.shape.specs.Step.{left, right}
use Rattle.answer.specs.Answers.{refusal_number, number}
use Rattle.shape.proofs.GoodLaws.{shape_done, shape_2, stripe_done}
use Rattle.rule.specs.declared.Losses.TheVariants.{One, Two}
use Rattle.rule.specs.Rule.{others, chain, differs}
use Rattle.rule.specs.Losses.{named, Solves}
use Rattle.checking.specs.Check.{some, count, breaks, broken_chains, differing_bits}
use Rattle.locating.specs.declared.Damage.TheVariants.{Column}
use Rattle.locating.specs.Locate.{found}
use Rattle.rebuild.specs.Rebuild.{Rebuild}
use Rattle.records.specs.Record.{two_bytes, counted, kind_of, payload, Unframed, Clients}
use Rattle.kinds.specs.declared.Deed.{Deed}
use Rattle.kinds.specs.Kinds.{Kind, shaping, writing, storing, checking, locating, rebuilding, kind_number, Unknown, Early, Wrong, named_shape, deed, Does, TellsOf}
use Rattle.kinds.proofs.KindsLaws.{kind_low, job_11, job_14, job_13, job_0}
use Rattle.job.specs.declared.State.{State}
use Rattle.job.specs.Step.{next, step_of, stopped}
use Rattle.job.proofs.StepLaws.{stepped_broken, stepped_client, stepped_known}
use Rattle.demands.specs.Cases.{Case, Holds, woven, five, sh₅, information, parity, stripe₅, printed, Prints, start, after, session, session_lines}
use Rattle.demands.proofs.Tests.{all, obeys_test, obeys_by, disobeys_by, same_test, lost_test, bytes_by, struck_test}
use Rattle.demands.proofs.Five.{good₅, neither, Sound₅, solves₅, clear, comes_back, none₅, stays, stores, writes, counted as counts_by}

-- ---- the stripe after the second record, and after the fourth

written : List ℕ
written = woven (five 0xA5 0x00 0x00 0x00 0x00) (five 0x00 0xA5 0x00 0x00 0xA5)

damaged : List ℕ
damaged = woven (five 0xA5 0x00 0x00 0x00 0x00) (five 0x00 0xA4 0x00 0x00 0xA5)

sound : Sound₅ written
unfolding written woven size place slot row byte left right chain differs others xors ◌⊕◌ all obeys_test
sound = record { long = refl; bytes = bytes_by written refl; obeys = obeys_by sh₅ written refl }

write₂ : Holds (Case.small_writes sh₅ (replicate 10 0) 0 0 (0xA5 ∷ []) written)
unfolding written woven size height place slot row byte left right chain others xors ◌⊕◌ all same_test struck_test differs
write₂ = writes (replicate 10 0) written 0 0 0xA5 (omega arith) refl refl refl (omega arith) refl refl

store₄ : Holds (Case.raw_stores sh₅ written 1 1 (0xA4 ∷ []) damaged)
unfolding written damaged woven size height place slot row byte all same_test struck_test
store₄ = stores written damaged 1 1 0xA4 (omega arith) refl refl refl (omega arith) refl

counts : Holds (Case.counts sh₅ written 0 0) × Holds (Case.counts sh₅ damaged 1 1) × Holds (Case.counts sh₅ stripe₅ 0 0)
unfolding written damaged stripe₅ information parity woven size place slot row byte left right chain others xors ◌⊕◌ differs some count total breaks broken_chains differing_bits ones
counts = (counts_by sh₅ good₅ written refl 0 0 refl, counts_by sh₅ good₅ damaged refl 1 1 refl, counts_by sh₅ good₅ stripe₅ refl 0 0 refl)

mends₁ : (length damaged ≡ size sh₅) × (obeys_test sh₅ damaged ≡ false) × Solves sh₅ (One 1) damaged written
unfolding written damaged woven size place slot row byte left right chain differs others xors ◌⊕◌ all obeys_test same_test lost_test
mends₁ = (refl, refl, solves₅ (One 1) damaged written sound refl (λ z. omega arith) (λ z. z) refl)

find₆ : Holds (Case.finds sh₅ damaged (Column 1))
unfolding number found
find₆ =
    let (long, bad, sol) = mends₁ in record {
      answer = (stripe_done sh₅ damaged).0 (good₅, long);
      refused = λ ne. absurd (ne refl);
      done = λ e. inr (inl (refl, disobeys_by sh₅ damaged bad, (omega arith, written, sol)));
    }

back₈ : Holds (Case.rebuilds sh₅ (Two 1 0) damaged written)
unfolding written damaged woven size place slot row byte all same_test lost_test
back₈ = comes_back (Two 1 0) damaged written sound refl (neither (λ h. omega arith) (λ h. omega arith)) (λ z. omega arith) refl

-- ---- records

-- one that lies whole at the front of the input
abbrev pub Whole : List ℕ → Type 0
Whole input = (2 ≤ counted input) × (counted input ≤ 4100) × (2 + counted input ≤ length input)

pub framed : (input : List ℕ) → Whole input → ¬ Unframed input
framed input (lo, hi, fits) = neither (λ z. omega arith) (neither (λ z. omega arith) (neither (λ z. omega arith) (λ z. omega arith)))

pub seven : Unknown 7
unfolding kind_number
seven shaping e = omega arith
seven writing e = omega arith
seven storing e = omega arith
seven checking e = omega arith
seven locating e = omega arith
seven rebuilding e = omega arith

module _ (room : ℕ) (enough : 2 * column_length sh₅ ≤ room) where
  -- column 1 mends the stripe, so column 3 does not
  disagree₇ : Rebuild sh₅ (One 3) damaged room (Err Disagree) damaged (replicate room 0)
  disagree₇ =
      let (long, bad, sol) = mends₁ in
      stays damaged long 3 (omega arith) (none₅ damaged long (disobeys_by sh₅ damaged bad) 1 3 (omega arith) (λ e. omega arith) (omega arith, written, sol)) room enough

  -- ---- a record that the program does not refuse: what its kind does, then the rest

  module _ (st : State) (input s : List ℕ) (whole : Whole input) where
    tells : ¬ Clients (kind_of input) → (d : Deed) (s' : List ℕ) → TellsOf (kind_of input) st.held (payload input) s room d s' (replicate room 0)
        → (line : List ℕ) (rest : List (List ℕ)) → printed (step_of st (kind_of input) d (2 + counted input)) ≡ line
        → Prints (record { held = d.held; records = next st.records }) (drop (2 + counted input) input) s' room rest
        → Prints st input s room (line ∷ rest)
    unfolding step_of
    tells ours d s' t line rest e more =
        (omega (arith, whole.0, whole.2), _, s', replicate room 0, stepped_known st input s room (replicate room 0) (clear room) (framed input whole) ours d s' t, e, more)

    goes : (k : Kind) → kind_of input ≡ kind_number k → ¬ Early k st.held → ¬ Wrong k (payload input)
        → (d : Deed) (s' : List ℕ) → Does k st.held (payload input) s room d s' (replicate room 0)
        → (line : List ℕ) (rest : List (List ℕ)) → printed (step_of st (kind_of input) d (2 + counted input)) ≡ line
        → Prints (record { held = d.held; records = next st.records }) (drop (2 + counted input) input) s' room rest
        → Prints st input s room (line ∷ rest)
    goes k is late right d s' does =
        tells (λ c. omega (arith, kind_low k)) d s' (0, job_0 st.held (kind_of input) (payload input) k is late right, inr (refl, (k, is, does)))

  -- ---- the session, the last record first

  prints₉ : Prints (after 8) (drop 47 session) written room (drop 8 session_lines)
  unfolding session session_lines two_bytes counted kind_of payload kind_number step_of next printed number size written woven
  prints₉ =
      goes (after 8) (drop 47 session) written (omega arith) Kind.checking refl (λ z. z good₅) (λ ne. ne refl) (deed (Some sh₅) 0 0 0) written
      (Ok (record { broken = 0; bits = 0 }), counts.0, refl, refl) (five 9 4 0 0 0) (drop 9 session_lines) refl refl

  prints₈ : Prints (after 7) (drop 40 session) damaged room (drop 7 session_lines)
  unfolding session session_lines two_bytes counted kind_of payload kind_number step_of next printed number size written damaged woven named
  prints₈ =
      goes (after 7) (drop 40 session) damaged (omega arith) Kind.rebuilding refl (λ z. z good₅) (neither (λ z. omega arith) (λ ne. ne refl))
      (deed (Some sh₅) 0 2 0) written (Ok tt, back₈ room enough, record { long = refl; rest = refl }, refl) (five 8 6 0 2 0) (drop 8 session_lines) refl prints₉

  prints₇ : Prints (after 6) (drop 34 session) damaged room (drop 6 session_lines)
  unfolding session session_lines two_bytes counted kind_of payload kind_number step_of next printed number refusal_number size damaged woven named
  prints₇ =
      goes (after 6) (drop 34 session) damaged (omega arith) Kind.rebuilding refl (λ z. z good₅) (neither (λ z. omega arith) (λ ne. ne refl))
      (deed (Some sh₅) 9 0 0) damaged (Err Disagree, disagree₇, record { long = refl; rest = refl }, refl) (five 7 6 9 0 0) (drop 7 session_lines) refl prints₈

  prints₆ : Prints (after 5) (drop 30 session) damaged room (drop 5 session_lines)
  unfolding session session_lines two_bytes counted kind_of payload kind_number step_of next printed number found size damaged woven
  prints₆ =
      goes (after 5) (drop 30 session) damaged (omega arith) Kind.locating refl (λ z. z good₅) (λ ne. ne refl) (deed (Some sh₅) 0 1 1) damaged
      (Ok (Column 1), find₆, refl, refl) (five 6 5 0 1 1) (drop 6 session_lines) refl prints₇

  prints₅ : Prints (after 4) (drop 26 session) damaged room (drop 4 session_lines)
  unfolding session session_lines two_bytes counted kind_of payload kind_number step_of next printed number size damaged woven
  prints₅ =
      goes (after 4) (drop 26 session) damaged (omega arith) Kind.checking refl (λ z. z good₅) (λ ne. ne refl) (deed (Some sh₅) 0 1 1) damaged
      (Ok (record { broken = 1; bits = 1 }), counts.1, refl, refl) (five 5 4 0 1 1) (drop 5 session_lines) refl prints₆

  prints₄ : Prints (after 3) (drop 19 session) written room (drop 3 session_lines)
  unfolding session session_lines two_bytes counted kind_of payload kind_number step_of next printed number size written damaged woven
  prints₄ =
      goes (after 3) (drop 19 session) written (omega arith) Kind.storing refl (λ z. z good₅) (λ z. omega arith)
      (deed (Some sh₅) 0 0 0) damaged (Ok tt, store₄, record { long = refl; rest = refl }, refl) (five 4 3 0 0 0) (drop 4 session_lines) refl prints₅

  prints₃ : Prints (after 2) (drop 15 session) written room (drop 2 session_lines)
  unfolding session session_lines two_bytes counted kind_of payload kind_number step_of next printed number size written woven
  prints₃ =
      goes (after 2) (drop 15 session) written (omega arith) Kind.checking refl (λ z. z good₅) (λ ne. ne refl) (deed (Some sh₅) 0 0 0) written
      (Ok (record { broken = 0; bits = 0 }), counts.0, refl, refl) (five 3 4 0 0 0) (drop 3 session_lines) refl prints₄

  prints₂ : Prints (after 1) (drop 8 session) (replicate 10 0) room (drop 1 session_lines)
  unfolding session session_lines two_bytes counted kind_of payload kind_number step_of next printed number size written woven
  prints₂ =
      goes (after 1) (drop 8 session) (replicate 10 0) (omega arith) Kind.writing refl (λ z. z good₅) (λ z. omega arith)
      (deed (Some sh₅) 0 0 0) written (Ok tt, write₂, record { long = refl; rest = refl }, refl) (five 2 2 0 0 0) (drop 2 session_lines) refl prints₃

  prints₁ : Prints start session stripe₅ room session_lines
  unfolding session session_lines two_bytes counted kind_of payload kind_number named_shape step_of next printed size stripe₅ woven information parity
  prints₁ =
      goes start session stripe₅ (omega arith) Kind.shaping refl (λ z. z) (λ ne. ne refl) (deed (Some sh₅) 0 10 0) (replicate 10 0)
      (0, (shape_done sh₅).0 good₅, inl (refl, record { is = refl; zeros = λ i h. get_or-replicate 10 i 0 0 h; inside = record { long = refl; rest = refl } }))
      (five 1 1 0 10 0) (drop 1 session_lines) refl prints₂

  -- ---- the refusals

  early : Prints start (0x03 ∷ 0x00 ∷ 0x06 ∷ 0x00 ∷ 0x03 ∷ []) stripe₅ room (five 1 6 14 0 0 ∷ [])
  unfolding two_bytes counted kind_of payload kind_number step_of next printed
  early =
      tells start (0x03 ∷ 0x00 ∷ 0x06 ∷ 0x00 ∷ 0x03 ∷ []) stripe₅ (omega arith) (λ c. omega arith) (deed None 14 0 0) stripe₅
      (14, job_14 None 6 (3 ∷ []) Kind.rebuilding refl tt, inl ((λ z. omega arith), refl, refl)) (five 1 6 14 0 0) [] refl refl

  unknown : Prints start (0x03 ∷ 0x00 ∷ 0x07 ∷ 0x00 ∷ 0x03 ∷ []) stripe₅ room (five 1 7 11 0 0 ∷ [])
  unfolding two_bytes counted kind_of payload step_of next printed
  unknown =
      tells start (0x03 ∷ 0x00 ∷ 0x07 ∷ 0x00 ∷ 0x03 ∷ []) stripe₅ (omega arith) (λ c. omega arith) (deed None 11 0 0) stripe₅
      (11, job_11 None 7 (3 ∷ []) seven, inl ((λ z. omega arith), refl, refl)) (five 1 7 11 0 0) [] refl refl

  short : Prints start (0x03 ∷ 0x00 ∷ 0x01 ∷ 0x00 ∷ 0x02 ∷ []) stripe₅ room (five 1 1 13 0 0 ∷ [])
  unfolding two_bytes counted kind_of payload kind_number step_of next printed
  short =
      tells start (0x03 ∷ 0x00 ∷ 0x01 ∷ 0x00 ∷ 0x02 ∷ []) stripe₅ (omega arith) (λ c. omega arith) (deed None 13 0 0) stripe₅
      (13, job_13 None 1 (2 ∷ []) Kind.shaping refl (λ z. z) (λ z. omega arith), inl ((λ z. omega arith), refl, refl)) (five 1 1 13 0 0) [] refl refl

  stray : Prints start (0x02 ∷ 0x00 ∷ 0x00 ∷ 0x80 ∷ 0x02 ∷ []) stripe₅ room ([] ∷ five 2 0 12 0 0 ∷ [])
  unfolding two_bytes counted kind_of step_of stopped next printed
  stray = (
    omega arith,
    _,
    stripe₅,
    replicate room 0,
    stepped_client start (0x02 ∷ 0x00 ∷ 0x00 ∷ 0x80 ∷ 0x02 ∷ []) stripe₅ room (replicate room 0) (clear room)
        (framed (0x02 ∷ 0x00 ∷ 0x00 ∷ 0x80 ∷ 0x02 ∷ []) (omega arith)) (omega arith),
    refl,
    (
      omega arith,
      _,
      stripe₅,
      replicate room 0,
      stepped_broken (record { held = None; records = 1 }) (0x02 ∷ []) stripe₅ room (replicate room 0) (clear room) (omega arith) (inl (omega arith)),
      refl,
      refl,
    ),
  )

  -- (2,4) is refused, and (2,5) is checked
  old : Prints (after 1) (0x06 ∷ 0x00 ∷ 0x01 ∷ 0x00 ∷ 0x02 ∷ 0x04 ∷ 0x01 ∷ 0x00 ∷ 0x02 ∷ 0x00 ∷ 0x04 ∷ 0x00 ∷ []) stripe₅ room (five 2 1 2 0 0 ∷ five 3 4 0 0 0 ∷ [])
  unfolding two_bytes counted kind_of payload kind_number named_shape step_of next printed number size stripe₅ woven information parity
  old =
      goes (after 1) (0x06 ∷ 0x00 ∷ 0x01 ∷ 0x00 ∷ 0x02 ∷ 0x04 ∷ 0x01 ∷ 0x00 ∷ 0x02 ∷ 0x00 ∷ 0x04 ∷ 0x00 ∷ []) stripe₅ (omega arith)
      Kind.shaping refl (λ z. z) (λ ne. ne refl) (deed (Some sh₅) 2 0 0) stripe₅
      (2, shape_2 (shape 2 4 1) (omega arith) (inl (omega arith)), inr ((λ z. omega arith), refl, refl)) (five 2 1 2 0 0) (five 3 4 0 0 0 ∷ []) refl
      (goes (after 2) (0x02 ∷ 0x00 ∷ 0x04 ∷ 0x00 ∷ []) stripe₅ (omega arith) Kind.checking refl (λ z. z good₅) (λ ne. ne refl) (deed (Some sh₅) 0 0 0) stripe₅
      (Ok (record { broken = 0; bits = 0 }), counts.2, refl, refl) (five 3 4 0 0 0) [] refl refl)

pub session_prints : Holds (Case.prints start session stripe₅ session_lines)
session_prints = prints₁

pub refusals_print : Holds (Case.prints start (0x03 ∷ 0x00 ∷ 0x06 ∷ 0x00 ∷ 0x03 ∷ []) stripe₅ (five 1 6 14 0 0 ∷ []))
    × Holds (Case.prints start (0x03 ∷ 0x00 ∷ 0x07 ∷ 0x00 ∷ 0x03 ∷ []) stripe₅ (five 1 7 11 0 0 ∷ []))
    × Holds (Case.prints start (0x03 ∷ 0x00 ∷ 0x01 ∷ 0x00 ∷ 0x02 ∷ []) stripe₅ (five 1 1 13 0 0 ∷ []))
    × Holds (Case.prints start (0x02 ∷ 0x00 ∷ 0x00 ∷ 0x80 ∷ 0x02 ∷ []) stripe₅ ([] ∷ five 2 0 12 0 0 ∷ []))
    × Holds (Case.prints (after 1) (0x06 ∷ 0x00 ∷ 0x01 ∷ 0x00 ∷ 0x02 ∷ 0x04 ∷ 0x01 ∷ 0x00 ∷ 0x02 ∷ 0x00 ∷ 0x04 ∷ 0x00 ∷ []) stripe₅ (five 2 1 2 0 0 ∷ five 3 4 0 0 0 ∷ []))
refusals_print = (early, unknown, short, stray, old)
