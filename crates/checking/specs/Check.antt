-- CHECK (document 01): of the stripe s, which it leaves as it is. Definitions only.
use Rattle.std.specs.Prelude.{◌≡◌, Bool, false, not, cond, ◌||◌, List, ℕ, zero, suc, ◌+◌, eqb, Result, Ok, Err}
use Rattle.std.specs.Int.Count.{ones}
use Rattle.xor.specs.Total.{total}
use Rattle.shape.specs.declared.Shape.{Shape}
use Rattle.answer.specs.declared.Refusal.{Refusal}
use Rattle.answer.specs.Answers.{number}
use Rattle.shape.specs.Refusals.{stripe_table}
use Rattle.answer.specs.Outcome.{Outcome}
use Rattle.rule.specs.Rule.{differs}
use Rattle.checking.specs.declared.Checked.{Checked}

-- does some i below k pass the test; how many do
unfoldable pub some : ℕ → (ℕ → Bool) → Bool
some zero test = false
some (suc k) test = some k test || test k

unfoldable pub count : ℕ → (ℕ → Bool) → ℕ
count zero test = 0
count (suc k) test = count k test + cond (test k) 1 0

-- "how many chains break the rule": chain p does if at some byte stored and computed parity differ
unfoldable pub breaks : Shape → List ℕ → ℕ → Bool
breaks sh s p = some sh.w (λ t. not (eqb (differs sh s p t) 0))

unfoldable pub broken_chains : Shape → List ℕ → ℕ
broken_chains sh s = count sh.n (breaks sh s)

-- "the differing bits between stored and computed parity, summed over all chains"
abbrev pub chain_bits : Shape → List ℕ → ℕ → ℕ
chain_bits sh s p = total sh.w (λ t. ones (differs sh s p t))

unfoldable pub differing_bits : Shape → List ℕ → ℕ
differing_bits sh s = total sh.n (chain_bits sh s)

-- the two numbers of a report, broken chains and differing bits; those of a refused call are 0
abbrev pub counts : Result Checked Refusal → ℕ × ℕ
counts (Ok report) = (report.broken, report.bits)
counts (Err refusal) = (0, 0)

abbrev pub Check : Shape → List ℕ → Result Checked Refusal → Type 0
Check sh s r = Outcome (stripe_table sh s) (0, 0) (λ (x : ℕ × ℕ). x ≡ (broken_chains sh s, differing_bits sh s)) (number r) (counts r)
