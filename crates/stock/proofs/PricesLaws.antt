-- Laws of the price list: one, and some.
use mathlib.Core.Path.{◌≡◌, refl, sym, ap, ◌∙◌}
use Rattle.std.specs.Prelude.{Result, Ok, Err}
use Rattle.shape.specs.declared.Shape.{Shape}
use Rattle.shape.specs.Refusals.{shape_table}
use Rattle.stock.specs.declared.Priced.{Priced}
use Rattle.stock.specs.Prices.{encode_price, one_price, two_price, symbols_read, Prices, Four, figures}
use Rattle.answer.specs.declared.Refusal.{Refusal}
use Rattle.answer.specs.Answers.{Answer, number}
use Rattle.answer.specs.Outcome.{Outcome}
use Rattle.answer.proofs.OutcomeLaws.{outcome_one, outcome_refused, call_some}
use Rattle.shape.proofs.Ready.{shape_ready}
use Rattle.stock.proofs.ResultLaws.{result_apart}

pub prices_one : (sh : Shape) (a b : Result Priced Refusal) → Prices sh a → Prices sh b → a ≡ b
prices_one sh a b p q =
    let (e, f) = outcome_one (λ h x y u v. u ∙ sym v) (number a) (number b) (figures a) (figures b) p q in
    result_apart a b e (same a b f)
  where
    same : (a b : Result Priced Refusal) → figures a ≡ figures b → (x y : Priced) → a ≡ Ok x → b ≡ Ok y → x ≡ y
    same a b f x y p q =
        let g : figures (Ok x) ≡ figures (Ok y) = sym (ap figures p) ∙ f ∙ ap figures q in
        λ i. record { encode = (g i).0; one = (g i).1; two = (g i).2; reads = (g i).3 }

pub prices_some : (sh : Shape) → (r : Result Priced Refusal) × Prices sh r
unfolding number
prices_some sh = let (a, x, h) = call_some {A = Four} (0, 0, 0, 0) Gives (shape_ready sh) (λ h. (_, refl)) in at a x h
  where
    Gives : Four → Type 0
    Gives x = x ≡ (encode_price sh, one_price sh, two_price sh, symbols_read sh)

    at : (a : Answer) (x : Four) → Outcome (shape_table sh) (0, 0, 0, 0) Gives (number a) x → (r : Result Priced Refusal) × Prices sh r
    at (Ok u) x h = (Ok record { encode = x.0; one = x.1; two = x.2; reads = x.3 }, h)
    at (Err r) x h = (Err r, outcome_refused (Unit {0}) Priced r h.answer)
