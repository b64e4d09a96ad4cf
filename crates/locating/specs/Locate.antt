-- LOCATE (document 01): of the stripe s, which it leaves as it is. Definitions only.
use Rattle.std.specs.Prelude.{◌≡◌, ◌≢◌, ◌⊎◌, List, ℕ, ◌≤◌, ◌<◌, Result, Ok, Err}
use Rattle.shape.specs.declared.Shape.{Shape}
use Rattle.shape.specs.Step.{left, right}
use Rattle.answer.specs.declared.Refusal.{Refusal}
use Rattle.answer.specs.Answers.{number}
use Rattle.shape.specs.Refusals.{stripe_table}
use Rattle.answer.specs.Outcome.{Outcome}
use Rattle.rule.specs.declared.Losses.TheVariants.{One}
use Rattle.rule.specs.Rule.{Obeys, differs}
use Rattle.rule.specs.Losses.{Solves}
use Rattle.locating.specs.declared.Damage.{Damage}
use Rattle.locating.specs.declared.Damage.TheVariants.{Sound, Column, Several}

-- what was found, in this paper's numbers: "0 sound, 1 one column, 2 more", and "the column or 0"
unfoldable pub found : Damage → ℕ × ℕ
found Sound = (0, 0)
found (Column c) = (1, c)
found Several = (2, 0)

-- the same of a report; the numbers of a refused call are 0
abbrev pub finding : Result Damage Refusal → ℕ × ℕ
finding (Ok damage) = found damage
finding (Err refusal) = (0, 0)

-- "some change within column c alone makes it sound"
abbrev pub Mends : Shape → List ℕ → ℕ → Type 0
Mends sh s c = (c < sh.n) × (x : List ℕ) × Solves sh (One c) s x

-- "Locate answers sound if no chain is broken; column c if the stripe is not sound and some change within column c alone makes it sound;
-- otherwise more than one."
abbrev pub Names : Shape → List ℕ → ℕ × ℕ → Type 0
Names sh s x =
    ((x ≡ (0, 0)) × Obeys sh s)
    ⊎ (((x.0 ≡ 1) × (¬ Obeys sh s) × Mends sh s x.1)
    ⊎ ((x ≡ (2, 0)) × (¬ Obeys sh s) × ((c : ℕ) → ¬ Mends sh s c)))

-- "Column c explains them when chains c-d and c+d differ by the same bytes for every height d, and chains outside the columns c-(m-1) to
-- c+(m-1) agree. Chain c itself may differ freely." (How locate looks; that it comes to the same: `ExplainsIsMends`.)
pub record Explains (sh : Shape) (s : List ℕ) (c : ℕ) : Type 0 where
  pub pairs : (d t : ℕ) → 1 ≤ d → d < sh.m → t < sh.w → differs sh s (left sh.n c d) t ≡ differs sh s (right sh.n c d) t
  pub outside : (p t : ℕ) → p < sh.n → t < sh.w → ((d : ℕ) → d < sh.m → (p ≢ left sh.n c d) × (p ≢ right sh.n c d)) → differs sh s p t ≡ 0

abbrev pub Locate : Shape → List ℕ → Result Damage Refusal → Type 0
Locate sh s r = Outcome (stripe_table sh s) (0, 0) (Names sh s) (number r) (finding r)
