-- ENCODE (document 01): the stripe s as lent, s' as left. Definitions only.
use Rattle.std.specs.Prelude.{◌≡◌, List, ℕ, ◌≤◌, ◌<◌, length}
use Rattle.shape.specs.declared.Shape.{Shape}
use Rattle.shape.specs.Place.{byte}
use Rattle.answer.specs.Answers.{Answer, number}
use Rattle.shape.specs.Refusals.{stripe_table}
use Rattle.answer.specs.Outcome.{Outcome}
use Rattle.rule.specs.Rule.{Obeys}

-- "Encode sets every parity symbol by the rule; information is untouched."
pub record Encoded (sh : Shape) (s s' : List ℕ) : Type 0 where
  pub long : length s' ≡ length s
  pub information : (d c t : ℕ) → 1 ≤ d → d < sh.m → c < sh.n → t < sh.w → byte sh s' t d c ≡ byte sh s t d c
  pub obeys : Obeys sh s'

abbrev pub Encode : Shape → List ℕ → Answer → List ℕ → Type 0
Encode sh s a s' = Outcome (stripe_table sh s) s (Encoded sh s) (number a) s'
