-- What a search shows of the bytes that it passes; and laws of Spells: a number under way, and each of the ways in which `number` answers. Cite them there.
use mathlib.Core.Path.{◌≡◌, refl, sym, ◌∙◌, ap, subst}
use mathlib.Core.Logic.{◌⊎◌, inl, inr}
use mathlib.Core.List.{List, [], ◌∷◌}
use Prim.Native.Nat.{ℕ, ◌+◌, ◌-◌, ◌*◌, ◌≤◌, ◌<◌}
use native.Mathlib.Omega.{arith}
use native.Mathlib.Numerals.{add-one}
use lib.ListN.{length, get_or, drop}
use lib.Seq.{drop-length, drop-cons}
use Rattle.std.proofs.lemmas.List.{length-drop, get_or-drop}
use borrow.Author.Count.{below_more}
use Rattle.std.specs.Prelude.{Option, Some, None, MatchOption}
use Rattle.std.specs.Option.{unwrap_or}
use Rattle.std.specs.List.{AllWithin, HoldsAt}
use Rattle.words.specs.Words.{blank, Blanks, Letters, Digits, spelled, Spells, Refused}

-- ---- what a search shows

-- where the part of a text from `from` on has its first byte that is `Yes`, or that it has none
abbrev pub Found : (Yes No : ℕ → Type 0) → List ℕ → ℕ → Option ℕ → Type 0
Found Yes No text from r = MatchOption r (AllWithin No (drop from text) 0 (length (drop from text))) (λ i. (i < length (drop from text)) × HoldsAt Yes (drop from text) i × AllWithin No (drop from text) 0 i)

-- every byte passed is `No`, and the one where the search ends is `Yes`
pub record Passed (Yes No : ℕ → Type 0) (text : List ℕ) (from r : ℕ) : Type 0 where
  pub since : from ≤ r
  pub inside : r ≤ length text
  pub all : (k : ℕ) → from ≤ k → k < r → No (get_or text k 0)
  pub ends : r < length text → Yes (get_or text r 0)

module _ (Yes No : ℕ → Type 0) (text : List ℕ) (from : ℕ) (h : from ≤ length text) where
  rest : length (drop from text) ≡ length text - from
  rest = length-drop from text

  -- the bytes passed, as bytes of the text
  before : (r : ℕ) → AllWithin No (drop from text) 0 r → (k : ℕ) → from ≤ k → k < from + r → No (get_or text k 0)
  before r all k lo hi =
      let e : from + (k - from) ≡ k = omega arith in subst (λ (j : ℕ). No (get_or text j 0)) e (rw (get_or-drop from text (k - from) 0) at (all (k - from) 0 (omega arith) (omega arith)))

  pub passed_some : (r : Option ℕ) (i : ℕ) → r ≡ Some i → Found Yes No text from r → Passed Yes No text from (from + i)
  passed_some r i e found = at (rw e at found)
    where
      at : Found Yes No text from (Some i) → Passed Yes No text from (from + i)
      at (inside, here, all) = record { since = omega arith; inside = omega (arith, rest); all = before i all; ends = λ _. rw (get_or-drop from text i 0) at (here 0) }

  pub passed_none : (r : Option ℕ) → r ≡ None → Found Yes No text from r → Passed Yes No text from (length text)
  passed_none r e found = at (rw e at found)
    where
      at : Found Yes No text from None → Passed Yes No text from (length text)
      at all = record { since = h; inside = omega arith; all = λ k lo hi. before (length (drop from text)) all k lo (omega (arith, rest)); ends = λ l. absurd (omega arith) }

pub blanks_passed : {text : List ℕ} {from r : ℕ} → Passed (λ b. blank < b) (λ b. b ≤ blank) text from r → Blanks text from r
blanks_passed p = record { since = p.since; inside = p.inside; all = p.all; ends = p.ends }

pub letters_passed : {text : List ℕ} {from r : ℕ} → Passed (λ b. b ≤ blank) (λ b. blank < b) text from r → Letters text from r
letters_passed p = record { since = p.since; inside = p.inside; all = p.all; ends = p.ends }

-- what holds from `from` up to i, and at i, holds up to i + 1
pub between_more : (P : ℕ → Type 0) (from i : ℕ) → ((k : ℕ) → from ≤ k → k < i → P k) → P i → (k : ℕ) → from ≤ k → k < i + 1 → P k
between_more P from i all here k lo hi = below_more (λ (j : ℕ). from ≤ j → P j) i (λ j h l. all j l h) (λ _. here) k hi lo

-- ---- the number that digits spell

-- more digits spell no less
spelled_more : (v : ℕ) (bs : List ℕ) → v ≤ spelled v bs
unfolding spelled
spelled_more v [] = omega arith
spelled_more v (b ∷ bs) = omega (arith, spelled_more (10 * v + (b - 48)) bs)

-- the first i bytes of the word are digits and spell v
pub record UnderWay (word : List ℕ) (i v : ℕ) : Type 0 where
  pub inside : i ≤ length word
  pub small : v < 1000
  pub digits : (k : ℕ) → k < i → (48 ≤ get_or word k 0) × (get_or word k 0 ≤ 57)
  pub rest : spelled v (drop i word) ≡ spelled 0 word

pub begin : (word : List ℕ) → UnderWay word 0 0
begin word = record { inside = omega arith; small = omega arith; digits = λ k h. absurd (omega arith); rest = refl }

module _ (word : List ℕ) (i v : ℕ) (u : UnderWay word i v) where
  -- ---- at a byte of the word

  module _ (h : i < length word) where
    -- a byte that is no digit
    pub no_digit : ¬ ((48 ≤ get_or word i 0) × (get_or word i 0 ≤ 57)) → Spells word None
    no_digit other = record { most = λ v e. cc; number = λ v e. cc; none = λ _. inl (λ all. other (all i h)) }

    next_rest : spelled (10 * v + (get_or word i 0 - 48)) (drop (i + 1) word) ≡ spelled 0 word
    unfolding spelled
    next_rest = rw add-one (rw (drop-cons word i 0 h) at u.rest)

    -- a number that is too large
    pub too_large : 1000 ≤ 10 * v + (get_or word i 0 - 48) → Spells word None
    too_large z = record {
      most = λ v e. cc;
      number = λ v e. cc;
      none = λ _. inr (omega (arith, spelled_more (10 * v + (get_or word i 0 - 48)) (drop (i + 1) word), next_rest));
    }

    pub next : (d : ℕ) → d ≡ get_or word i 0 - 48 → (48 ≤ get_or word i 0) → (get_or word i 0 ≤ 57) → 10 * v + d < 1000 → UnderWay word (i + 1) (10 * v + d)
    next d e lo hi small = record { inside = omega arith; small = small; digits = below_more _ _ u.digits (lo, hi); rest = rw (sym e) at next_rest }

  -- ---- at its end

  pub all_read : length word ≤ i → Spells word (Some v)
  unfolding spelled
  all_read end = record {
    most = λ x e. let same : v ≡ x = cc in omega (arith, u.small);
    number = λ x e. let same : v ≡ x = cc in ((λ k h. u.digits k (omega arith)), sym same ∙ sym at_end ∙ u.rest);
    none = λ e. cc;
  }
    where
      done : i ≡ length word
      done = omega (arith, u.inside)

      at_end : spelled v (drop i word) ≡ v
      at_end = ap (λ (k : ℕ). spelled v (drop k word)) done ∙ ap (spelled v) (drop-length word)

-- ---- a number outside of a range

-- the word spells no number below 1000
refused_none : (word : List ℕ) (r : Option ℕ) (least most : ℕ) → Spells word r → r ≡ None → most < 1000 → Refused word least most
refused_none word r least most h e hi digits = at (h.none e)
  where
    at : (¬ Digits word) ⊎ (1000 ≤ spelled 0 word) → (spelled 0 word < least) ⊎ (most < spelled 0 word)
    at (inl other) = absurd (other digits)
    at (inr z) = inr (omega arith)

-- it spells one, which is outside
refused_some : (word : List ℕ) (r : Option ℕ) (v least most : ℕ) → Spells word r → r ≡ Some v → (v < least) ⊎ (most < v) → Refused word least most
refused_some word r v least most h e out digits = rw (h.number v e).1 at out

-- where no number counts as 0, what is outside of the range is refused either way
pub refused : (word : List ℕ) (r : Option ℕ) (x least most : ℕ) → Spells word r → x ≡ unwrap_or r 0 → (x < least) ⊎ (most < x) → most < 1000 → Refused word least most
refused word None x least most h e out hi = refused_none word None least most h refl hi
refused word (Some v) x least most h e out hi = refused_some word (Some v) x least most h (ap Some (sym e)) out
