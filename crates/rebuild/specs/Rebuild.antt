-- REBUILD (document 01, demand 2): the stripe s with some columns lost, a workspace of `room` bytes, whatever it holds;
-- s' and work' are the stripe and the workspace as left. Definitions only.
use Rattle.std.specs.Prelude.{◌≡◌, List, [], ◌∷◌, ◌++◌, ℕ, ◌*◌, ◌≤◌, ◌<◌, length, get_or}
use Rattle.shape.specs.declared.Shape.{Shape}
use Rattle.answer.specs.Answers.{Answer}
use Rattle.shape.specs.Good.{Good, size}
use Rattle.shape.specs.Place.{column_length}
use Rattle.answer.specs.Answers.{number, Table}
use Rattle.shape.specs.Refusals.{stripe_table}
use Rattle.answer.specs.Outcome.{Outcome}
use Rattle.rule.specs.declared.Losses.{Losses}
use Rattle.rule.specs.Losses.{Beyond, Twice, Solves, Disagrees}

-- 5: "rebuild's workspace under 2·m·w bytes". 6: "a column is n or more". 7: "both lost columns are the same".
unfoldable pub early_table : Shape → Losses → List ℕ → ℕ → Table
early_table sh lost s room =
    stripe_table sh s
    ++ ((5, room < 2 * column_length sh)
    ∷ (6, Beyond sh.n lost)
    ∷ (7, Twice lost)
    ∷ [])

-- and 9: "rebuild: survivors disagree"
abbrev pub late_table : Shape → Losses → List ℕ → Table
late_table sh lost s = (9, Disagrees sh lost s) ∷ []

unfoldable pub rebuild_table : Shape → Losses → List ℕ → ℕ → Table
rebuild_table sh lost s room = early_table sh lost s room ++ late_table sh lost s

-- the call is otherwise good: nothing refuses it but, maybe, what the survivors say
pub record OtherwiseGood (sh : Shape) (lost : Losses) (s : List ℕ) (room : ℕ) : Type 0 where
  pub shape : Good sh
  pub stripe : length s ≡ size sh
  pub workspace : 2 * column_length sh ≤ room
  pub columns : ¬ Beyond sh.n lost
  pub apart : ¬ Twice lost

-- all zero, to its end
pub record Cleared (room : ℕ) (work' : List ℕ) : Type 0 where
  pub long : length work' ≡ room
  pub zero : (i : ℕ) → i < room → get_or work' i 0 ≡ 0

-- "The workspace lent to rebuild is zeroed under every answer, 5 included."
pub record Rebuild (sh : Shape) (lost : Losses) (s : List ℕ) (room : ℕ) (a : Answer) (s' work' : List ℕ) : Type 0 where
  pub outcome : Outcome (rebuild_table sh lost s room) s (Solves sh lost s) (number a) s'
  pub cleared : Cleared room work'
