-- A CALL TOLD TO A PROGRAM IN ANOTHER LANGUAGE: the result is the number of the answer, and a lent array holds the other numbers that document 01
-- names, in its order. Definitions only.
use Rattle.std.specs.Prelude.{◌≡◌, List, [], ◌∷◌, ℕ, Result}
use Rattle.shape.specs.declared.Shape.{Shape}
use Rattle.answer.specs.declared.Refusal.{Refusal}
use Rattle.answer.specs.Answers.{Answer, number}
use Rattle.rule.specs.declared.Losses.{Losses}
use Rattle.checking.specs.declared.Checked.{Checked}
use Rattle.checking.specs.Check.{Check, counts}
use Rattle.locating.specs.declared.Damage.{Damage}
use Rattle.locating.specs.Locate.{Locate, finding}
use Rattle.rebuild.specs.Rebuild.{Rebuild}
use Rattle.stock.specs.declared.Priced.{Priced}
use Rattle.stock.specs.Prices.{Prices, figures}
use Rattle.stock.specs.Stock.{Stock, shape_given}

-- a call that leaves a buffer and carries an answer alone
abbrev pub Numbered : (Answer → List ℕ → Type 0) → ℕ → List ℕ → Type 0
Numbered Call result left = (answer : Answer) × Call answer left × (result ≡ number answer)

-- rebuild, which leaves two
abbrev pub RebuildTold : Shape → Losses → List ℕ → ℕ → ℕ → List ℕ → List ℕ → Type 0
RebuildTold sh lost s room result s' work' = (answer : Answer) × Rebuild sh lost s room answer s' work' × (result ≡ number answer)

-- "broken chains", and "the differing bits"
pub record CheckTold (sh : Shape) (s : List ℕ) (result : ℕ) (numbers : List ℕ) : Type 0 where
  pub report : Result Checked Refusal
  pub is : Check sh s report
  pub answers : result ≡ number report
  pub holds : numbers ≡ ((counts report).0 ∷ (counts report).1 ∷ [])

-- "0 sound, 1 one column, 2 more", and "the column or 0"
pub record LocateTold (sh : Shape) (s : List ℕ) (result : ℕ) (numbers : List ℕ) : Type 0 where
  pub report : Result Damage Refusal
  pub is : Locate sh s report
  pub answers : result ≡ number report
  pub holds : numbers ≡ ((finding report).0 ∷ (finding report).1 ∷ [])

-- "encode", "one column", "two columns", and "the symbols read for one column"
pub record PricesTold (sh : Shape) (result : ℕ) (numbers : List ℕ) : Type 0 where
  pub report : Result Priced Refusal
  pub is : Prices sh report
  pub answers : result ≡ number report
  pub holds : numbers ≡ ((figures report).0 ∷ (figures report).1 ∷ (figures report).2 ∷ (figures report).3 ∷ [])

-- "as (m, n, w)"
pub record StockTold (which result : ℕ) (numbers : List ℕ) : Type 0 where
  pub report : Result Shape Refusal
  pub is : Stock which report
  pub answers : result ≡ number report
  pub holds : numbers ≡ ((shape_given report).m ∷ (shape_given report).n ∷ (shape_given report).w ∷ [])
