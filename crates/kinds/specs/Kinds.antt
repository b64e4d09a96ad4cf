-- WHAT A RECORD OF EACH KIND DOES (document 01, "The job program"), by the contracts of the calls: h is the shape held, p the payload, s the buffer whose
-- first m·n·w bytes are the stripe, `room` the length of the workspace; d is what the record comes to, s' and work' the buffers as left. Definitions only.
use Rattle.std.specs.Prelude.{◌≡◌, ◌≢◌, ◌⊎◌, cond, List, [], ◌∷◌, ℕ, ◌+◌, ◌<◌, eqb, length, get_or, take, drop, Option, None, Some, Result, Ok, Err}
use Rattle.shape.specs.declared.Shape.{Shape}
use Rattle.answer.specs.Answers.{Answer, refusal_number, number, Table, First}
use Rattle.shape.specs.Good.{Good, size, shape}
use Rattle.answer.specs.declared.Refusal.{Refusal}
use Rattle.shape.specs.Refusals.{shape_table}
use Rattle.rule.specs.Losses.{named}
use Rattle.checking.specs.declared.Checked.{Checked}
use Rattle.checking.specs.Check.{Check, counts}
use Rattle.locating.specs.declared.Damage.{Damage}
use Rattle.locating.specs.Locate.{Locate, finding}
use Rattle.writing.specs.Write.{SmallWrite}
use Rattle.storing.specs.Store.{RawStore}
use Rattle.rebuild.specs.Rebuild.{Rebuild}
use Rattle.records.specs.Record.{two_bytes}
use Rattle.kinds.specs.declared.Numbers.{Numbers}
use Rattle.kinds.specs.declared.Deed.{Deed}

-- the shape that was accepted last, if there was one
abbrev pub Held : Type 0
Held = Option Shape

-- there is no accepted shape
abbrev pub Shapeless : Held → Type 0
Shapeless None = Unit {0}
Shapeless (Some sh) = ¬ Good sh

-- "Kinds: 1 shape .. 2 small write .. 3 raw store .. 4 check. 5 locate. 6 rebuild"
pub data Kind : Type 0 where
  shaping writing storing checking locating rebuilding : Kind

unfoldable pub kind_number : Kind → ℕ
kind_number shaping = 1
kind_number writing = 2
kind_number storing = 3
kind_number checking = 4
kind_number locating = 5
kind_number rebuilding = 6

-- ---- the program's own refusals, "in this order": 12, see Stepped; then these

-- 11: "unknown kind"
abbrev pub Unknown : ℕ → Type 0
Unknown kind = (k : Kind) → kind ≢ kind_number k

-- 14: "kinds 2 to 6 before any accepted shape"
abbrev pub Early : Kind → Held → Type 0
Early shaping h = ⊥
Early writing h = Shapeless h
Early storing h = Shapeless h
Early checking h = Shapeless h
Early locating h = Shapeless h
Early rebuilding h = Shapeless h

-- 13: "payload length or rebuild count wrong (for kinds 2 and 3 only a payload under 2 bytes)"
abbrev pub Wrong : Kind → List ℕ → Type 0
Wrong shaping p = length p ≢ 4
Wrong writing p = length p < 2
Wrong storing p = length p < 2
Wrong checking p = length p ≢ 0
Wrong locating p = length p ≢ 0
Wrong rebuilding p = (2 < get_or p 0 0) ⊎ (length p ≢ 1 + get_or p 0 0)

-- something of the kind that a number is
abbrev pub Of : ℕ → (Kind → Type 0) → Type 0
Of kind P = (k : Kind) × (kind ≡ kind_number k) × P k

unfoldable pub job_table : Held → ℕ → List ℕ → Table
job_table h kind p =
    (11, Unknown kind)
    ∷ (14, Of kind (λ k. Early k h))
    ∷ (13, Of kind (λ k. Wrong k p))
    ∷ []

-- ---- what each kind does

-- a line with its answer, x and y; the shape held after it is h
abbrev pub deed : Held → ℕ → ℕ → ℕ → Deed
deed h a x y = record { held = h; told = Some (record { answer = a; x = x; y = y }) }

-- of a record that is answered with x and y, or refused; a refusal has neither
abbrev pub deed_of : Held → Result Numbers Refusal → Deed
deed_of h (Ok numbers) = deed h 0 numbers.x numbers.y
deed_of h (Err refusal) = deed h (refusal_number refusal) 0 0

-- of a shape that is taken, and then held, or refused
abbrev pub begun_of : Held → Result Shape Refusal → Deed
begun_of h (Ok sh) = deed (Some sh) 0 (size sh) 0
begun_of h (Err refusal) = deed h (refusal_number refusal) 0 0

-- the stripe of a shape in that buffer; what a record does to it leaves the rest
abbrev pub stripe : Shape → List ℕ → List ℕ
stripe sh s = take (size sh) s

pub record Inside (sh : Shape) (s s' : List ℕ) : Type 0 where
  pub long : length s' ≡ length s
  pub rest : drop (size sh) s' ≡ drop (size sh) s

-- "1 shape (m, n one byte each, w two bytes; the stripe becomes zeros)"; "shape gives x = m·n·w". "A refused shape leaves the old one."
unfoldable pub named_shape : List ℕ → Shape
named_shape p = shape (get_or p 0 0) (get_or p 1 0) (two_bytes p 2)

pub record Begins (sh : Shape) (s : List ℕ) (d : Deed) (s' : List ℕ) : Type 0 where
  pub is : d ≡ deed (Some sh) 0 (size sh) 0
  pub zeros : (i : ℕ) → i < size sh → get_or s' i 0 ≡ 0
  pub inside : Inside sh s s'

abbrev pub Shapes : Held → List ℕ → List ℕ → Deed → List ℕ → Type 0
Shapes h p s d s' =
    (k : ℕ) × First (shape_table (named_shape p)) k
    × (((k ≡ 0) × Begins (named_shape p) s d s') ⊎ ((k ≢ 0) × (d ≡ deed h k 0 0) × (s' ≡ s)))

-- "2 small write (column, row, symbol). 3 raw store (same payload, any row, no parity touched)."
abbrev pub Stores : (Shape → List ℕ → ℕ → ℕ → List ℕ → Answer → List ℕ → Type 0) → Shape → List ℕ → List ℕ → Deed → List ℕ → Type 0
Stores Call sh p s d s' =
    (a : Answer) × Call sh (stripe sh s) (get_or p 0 0) (get_or p 1 0) (drop 2 p) a (stripe sh s') × Inside sh s s' × (d ≡ deed (Some sh) (number a) 0 0)

-- "4 check": "x broken chains, and y counts the differing bits"
abbrev pub Checks : Shape → List ℕ → Deed → List ℕ → Type 0
Checks sh s d s' = (r : Result Checked Refusal) × Check sh (stripe sh s) r × (s' ≡ s) × (d ≡ deed (Some sh) (number r) (counts r).0 (counts r).1)

-- "5 locate": "x 0 sound, 1 one column, 2 more, and y the column or 0"
abbrev pub Locates : Shape → List ℕ → Deed → List ℕ → Type 0
Locates sh s d s' = (r : Result Damage Refusal) × Locate sh (stripe sh s) r × (s' ≡ s) × (d ≡ deed (Some sh) (number r) (finding r).0 (finding r).1)

-- "6 rebuild (a count 0 to 2, then that many columns)": "x columns lost"
abbrev pub Rebuilds : Shape → List ℕ → List ℕ → ℕ → Deed → List ℕ → List ℕ → Type 0
Rebuilds sh p s room d s' work' =
    (a : Answer) × Rebuild sh (named (get_or p 0 0) (get_or p 1 0) (get_or p 2 0)) (stripe sh s) room a (stripe sh s') work' × Inside sh s s'
    × (d ≡ deed (Some sh) (number a) (cond (eqb (number a) 0) (get_or p 0 0) 0) 0)

-- kind 1 needs no shape, the others go by the one that is held
abbrev pub With : Held → (Shape → Type 0) → Type 0
With None P = ⊥
With (Some sh) P = P sh

abbrev pub Does : Kind → Held → List ℕ → List ℕ → ℕ → Deed → List ℕ → List ℕ → Type 0
Does shaping h p s room d s' work' = Shapes h p s d s'
Does writing h p s room d s' work' = With h (λ sh. Stores SmallWrite sh p s d s')
Does storing h p s room d s' work' = With h (λ sh. Stores RawStore sh p s d s')
Does checking h p s room d s' work' = With h (λ sh. Checks sh s d s')
Does locating h p s room d s' work' = With h (λ sh. Locates sh s d s')
Does rebuilding h p s room d s' work' = With h (λ sh. Rebuilds sh p s room d s' work')

-- a record that is no client's: refused by the program, or else as its kind does
abbrev pub TellsOf : ℕ → Held → List ℕ → List ℕ → ℕ → Deed → List ℕ → List ℕ → Type 0
TellsOf kind h p s room d s' work' =
    (k : ℕ) × First (job_table h kind p) k
    × (((k ≢ 0) × (d ≡ deed h k 0 0) × (s' ≡ s)) ⊎ ((k ≡ 0) × Of kind (λ k. Does k h p s room d s' work')))

-- "Kinds 32,768 and above belong to clients and are skipped without a line."
abbrev pub skipped : Held → Deed
skipped h = record { held = h; told = None }
