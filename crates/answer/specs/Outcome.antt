-- WHAT EVERY CALL HAS IN COMMON (document 01, "Refusal numbers"). Definitions only.
use Rattle.std.specs.Prelude.{◌≡◌, ◌≢◌, ℕ}
use Rattle.answer.specs.Answers.{Table, First}

-- The call's table gives the number. "A refused call changes no stripe and no answer buffer, and its other result numbers are 0": what comes
-- out is `kept`. Done, what comes out is as `Does` says.
pub record Outcome {A : Type 0} (table : Table) (kept : A) (Does : A → Type 0) (number : ℕ) (out : A) : Type 0 where
  pub answer : First table number
  pub refused : number ≢ 0 → out ≡ kept
  pub done : number ≡ 0 → Does out

-- the same of a call that carries no number out
abbrev pub Unnumbered : {A : Type 0} → Table → A → (A → Type 0) → A → Type 0
Unnumbered table kept Does out = (number : ℕ) × Outcome table kept Does number out
