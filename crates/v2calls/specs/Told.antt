-- WHAT A LINE TELLS (the page on call files): "ANSWER is the number of document 01", and the numbers X. Definitions only.
use Rattle.std.specs.Prelude.{◌≡◌, ◌≢◌, List, ℕ, zero, suc, ◌≤◌, length, Result}
use Rattle.std.specs.Borrow.{Bor}
use Rattle.answer.specs.declared.Refusal.{Refusal}
use Rattle.answer.specs.Answers.{Answer, number}
use Rattle.shape.specs.declared.Shape.{Shape}
use Rattle.rule.specs.declared.Losses.{Losses}
use Rattle.rule.specs.Losses.{named}
use Rattle.encoding.specs.Encode.{Encode}
use Rattle.checking.specs.declared.Checked.{Checked}
use Rattle.checking.specs.Check.{Check, counts}
use Rattle.locating.specs.declared.Damage.{Damage}
use Rattle.locating.specs.Locate.{Locate, finding}
use Rattle.writing.specs.Write.{SmallWrite}
use Rattle.storing.specs.Store.{RawStore}
use Rattle.handing.specs.Handed.{Handed}
use Rattle.rebuild.specs.Rebuild.{Rebuild}
use Rattle.filling.specs.Fill.{Fill}
use Rattle.filling.specs.HandedBack.{HandedBack}
use Rattle.stock.specs.declared.Priced.{Priced}
use Rattle.stock.specs.Prices.{Prices, figures}
use Rattle.stock.specs.Stock.{Stock, shape_given}
use Rattle.v2calls.specs.Calls.{call_number}
use Rattle.v2calls.specs.declared.heading.Head.{Head}
use Rattle.v2calls.specs.declared.making.Told.{Told}

-- a line's numbers
abbrev pub told : ℕ → ℕ → ℕ → ℕ → ℕ → Told
told answer x1 x2 x3 x4 = record { answer = answer; x1 = x1; x2 = x2; x3 = x3; x4 = x4 }

-- "All else is 0."
abbrev pub plain : Answer → Told
plain answer = told (number answer) 0 0 0 0

-- "rebuild the number of columns lost", where it is done
unfoldable pub if_done : ℕ → ℕ → ℕ
if_done zero count = count
if_done (suc refused) count = 0

-- the losses that a head names: "how many lost", "first named", "second named"
abbrev pub lost : Head → Losses
lost h = named h.a h.b h.c

-- what a check tells: "check gives broken chains and differing bits"
pub record Checks (h : Head) (s : List ℕ) (t : Told) : Type 0 where
  pub report : Result Checked Refusal
  pub is : Check h.shape s report
  pub tells : t ≡ told (number report) (counts report).0 (counts report).1 0 0

-- what a locate tells: "locate 0 sound, 1 one column, 2 more, then the column"
pub record Locates (h : Head) (s : List ℕ) (t : Told) : Type 0 where
  pub report : Result Damage Refusal
  pub is : Locate h.shape s report
  pub tells : t ≡ told (number report) (finding report).0 (finding report).1 0 0

-- what a rebuild tells and leaves
pub record Rebuilds (h : Head) (s : List ℕ) (room : ℕ) (t : Told) (s' work : List ℕ) : Type 0 where
  pub answer : Answer
  pub is : Rebuild h.shape (lost h) s room answer s' work
  pub tells : t ≡ told (number answer) (if_done (number answer) h.a) 0 0 0

-- what a price list tells: "prices encode, one column, two columns, symbols read"
pub record PricesOf (h : Head) (t : Told) : Type 0 where
  pub report : Result Priced Refusal
  pub is : Prices h.shape report
  pub tells : t ≡ told (number report) (figures report).0 (figures report).1 (figures report).2 (figures report).3

-- what a stock shape tells: "stock m, n, w"
pub record StockOf (h : Head) (t : Told) : Type 0 where
  pub report : Result Shape Refusal
  pub is : Stock h.a report
  pub tells : t ≡ told (number report) (shape_given report).m (shape_given report).n (shape_given report).w 0

-- what a call tells of itself and leaves of its two buffers, call by call; a buffer that is not the call's stays as it is
pub data Makes (h : Head) (s t : List ℕ) (r : Told) (s' t' : List ℕ) : Type 0 where
  encodes : (answer : Answer) → call_number h.call ≡ 1 → Encode h.shape s answer s' → t' ≡ t → r ≡ plain answer → Makes h s t r s' t'
  checks : call_number h.call ≡ 2 → Checks h s r → s' ≡ s → t' ≡ t → Makes h s t r s' t'
  locates : call_number h.call ≡ 3 → Locates h s r → s' ≡ s → t' ≡ t → Makes h s t r s' t'
  writes : (answer : Answer) → call_number h.call ≡ 4 → SmallWrite h.shape s h.a h.b t answer s' → t' ≡ t → r ≡ plain answer → Makes h s t r s' t'
  stores : (answer : Answer) → call_number h.call ≡ 5 → RawStore h.shape s h.a h.b t answer s' → t' ≡ t → r ≡ plain answer → Makes h s t r s' t'
  rebuilds : call_number h.call ≡ 6 → Rebuilds h s (length t) r s' t' → Makes h s t r s' t'
  fills : (answer : Answer) → call_number h.call ≡ 7 → Fill h.shape s (lost h) h.d t answer t' → s' ≡ s → r ≡ plain answer → Makes h s t r s' t'
  hands : 8 ≤ call_number h.call → call_number h.call ≤ 9 → s' ≡ s → t' ≡ t → r ≡ told 0 0 0 0 0 → Makes h s t r s' t'
  prices : call_number h.call ≡ 10 → PricesOf h r → s' ≡ s → t' ≡ t → Makes h s t r s' t'
  stocks : call_number h.call ≡ 11 → StockOf h r → s' ≡ s → t' ≡ t → Makes h s t r s' t'

-- "PART what choose or column handed back"; of any other call there is none
pub data HandsOut (h : Head) (s t r : Bor (List ℕ)) : Type 0 where
  chooses : call_number h.call ≡ 8 → HandedBack h.shape s (lost h) h.d t r → HandsOut h s t r
  reads : call_number h.call ≡ 9 → Handed h.shape s h.a r → HandsOut h s t r
  nothing : call_number h.call ≢ 8 → call_number h.call ≢ 9 → length r.now ≡ 0 → HandsOut h s t r
