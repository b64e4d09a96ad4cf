-- What a guard that asks `is_err` of an answer tells: where it returns the answer is a refusal, and past it the answer is Ok.
use mathlib.Core.Path.{◌≡◌, refl, sym, ◌∙◌}
use mathlib.Core.Logic.{◌≢◌}
use mathlib.Core.Bool.{Bool, true, false}
use Rattle.std.specs.Prelude.{Ok, Err}
use Rattle.std.proofs.lemmas.Bool.{true≢false}
use Rattle.std.specs.Result.{is_err}
use Rattle.answer.specs.Answers.{Answer, number}
use Rattle.answer.proofs.AnswersLaws.{refused}

unlike : {A : Type 0} (b : Bool) → b ≡ true → b ≡ false → A
unlike b t f = absurd (true≢false (sym t ∙ f))

pub guard_stops : (a : Answer) (b : Bool) → b ≡ is_err a → b ≡ true → number a ≢ 0
guard_stops (Ok u) b e t = unlike b t e
guard_stops (Err r) b e t = refused refl

pub guard_passes : (a : Answer) (b : Bool) → b ≡ is_err a → b ≡ false → a ≡ Ok tt
guard_passes (Ok u) b e f = refl
guard_passes (Err r) b e f = unlike b e f
