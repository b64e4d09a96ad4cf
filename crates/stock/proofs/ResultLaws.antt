-- Two results are one where their numbers are and what they give is.
use mathlib.Core.Path.{◌≡◌, refl, sym, ap}
use Rattle.std.specs.Prelude.{Result, Ok, Err}
use Rattle.answer.specs.declared.Refusal.{Refusal}
use Rattle.answer.specs.Answers.{Answer, number}
use Rattle.answer.proofs.AnswersLaws.{number_apart, refused}

module _ {A : Type 0} where
  -- an answer that is a refusal, as a result
  refusing : Result A Refusal → Answer → Result A Refusal
  refusing x (Ok u) = x
  refusing x (Err r) = Err r

  pub result_apart : (a b : Result A Refusal) → number a ≡ number b → ((x y : A) → a ≡ Ok x → b ≡ Ok y → x ≡ y) → a ≡ b
  unfolding number refusing
  result_apart (Ok x) (Ok y) e same = ap Ok (same x y refl refl)
  result_apart (Ok x) (Err r) e same = absurd (refused {A = A} {r = r} refl (sym e))
  result_apart (Err r) (Ok y) e same = absurd (refused {A = A} {r = r} refl e)
  result_apart (Err r) (Err q) e same = ap (refusing (Err r)) (number_apart (Err r) (Err q) e)
