-- Laws of locate: one finding, and some.
use mathlib.Core.Path.{◌≡◌, refl, sym, ap, ◌∙◌}
use mathlib.Core.Logic.{inl, inr}
use mathlib.Core.List.{List}
use Prim.Native.Nat.{ℕ, zero, suc, ◌<◌}
use native.Mathlib.Omega.{arith}
use lib.ListN.{length}
use Rattle.std.specs.Prelude.{Result, Ok, Err}
use Rattle.shape.specs.declared.Shape.{Shape}
use Rattle.shape.specs.Good.{Good, size}
use Rattle.shape.specs.Refusals.{stripe_table}
use Rattle.shape.proofs.GoodLaws.{stripe_done}
use Rattle.answer.specs.declared.Refusal.{Refusal}
use Rattle.answer.specs.Answers.{Answer, number}
use Rattle.answer.specs.Outcome.{Outcome}
use Rattle.answer.proofs.AnswersLaws.{number_apart, refused}
use Rattle.answer.proofs.OutcomeLaws.{outcome_one, call_some}
use Rattle.shape.proofs.Ready.{stripe_ready}
use Rattle.rule.specs.declared.Losses.TheVariants.{One}
use Rattle.rule.specs.Rule.{Obeys}
use Rattle.rule.specs.Losses.{Solves}
use Rattle.rule.proofs.Decide.{some?}
use Rattle.rule.proofs.RuleLaws.{obeys?}
use Rattle.rule.proofs.SolvesLaws.{solves?, mended_one}
use Rattle.locating.specs.declared.Damage.{Damage}
use Rattle.locating.specs.declared.Damage.TheVariants.{Sound, Column, Several}
use Rattle.locating.specs.Locate.{found, finding, Mends, Names, Locate}

-- the two numbers tell findings apart
told : ℕ → ℕ → Damage
told zero c = Sound
told (suc zero) c = Column c
told (suc (suc k)) c = Several

told_found : (f : Damage) → told (found f).0 (found f).1 ≡ f
unfolding found told
told_found Sound = refl
told_found (Column c) = refl
told_found Several = refl

found_apart : (f g : Damage) → found f ≡ found g → f ≡ g
found_apart f g e = sym (told_found f) ∙ ap (λ (x : ℕ × ℕ). told x.0 x.1) e ∙ told_found g

module _ (sh : Shape) (s : List ℕ) (good : Good sh) (len : length s ≡ size sh) where
  pub mends_one : ¬ Obeys sh s → (c e : ℕ) → Mends sh s c → Mends sh s e → c ≡ e
  mends_one bad c e (hc, x, p) (he, y, q) = mended_one sh good s len bad c e hc he x y p q

  names_one : (x y : ℕ × ℕ) → Names sh s x → Names sh s y → x ≡ y
  names_one x y (inl p) (inl q) = p.0 ∙ sym q.0
  names_one x y (inl p) (inr (inl q)) = absurd (q.1 p.1)
  names_one x y (inl p) (inr (inr q)) = absurd (q.1 p.1)
  names_one x y (inr (inl p)) (inl q) = absurd (p.1 q.1)
  names_one x y (inr (inl p)) (inr (inl q)) = let e = p.0 ∙ sym q.0 in let f = mends_one p.1 x.1 y.1 p.2 q.2 in λ i. (e i, f i)
  names_one x y (inr (inl p)) (inr (inr q)) = absurd (q.2 x.1 p.2)
  names_one x y (inr (inr p)) (inl q) = absurd (p.1 q.1)
  names_one x y (inr (inr p)) (inr (inl q)) = absurd (p.2 y.1 q.2)
  names_one x y (inr (inr p)) (inr (inr q)) = p.0 ∙ sym q.0

  names_some : (f : Damage) × Names sh s (found f)
  unfolding found
  names_some = at (obeys? sh s) (some? sh.n (λ c. (x : List ℕ) × Solves sh (One c) s x) (λ c hc. solves? sh good (One c) (λ z. omega arith) (λ z. z) s len))
    where
      at : Dec (Obeys sh s) → Dec ((c : ℕ) × (c < sh.n) × ((x : List ℕ) × Solves sh (One c) s x)) → (f : Damage) × Names sh s (found f)
      at (yes p) q = (Sound, inl (refl, p))
      at (no p) (yes q) = (Column q.0, inr (inl (refl, p, (q.1, q.2.0, q.2.1))))
      at (no p) (no q) = (Several, inr (inr (refl, p, λ c z. q (c, z.0, (z.1, z.2)))))

-- two reports with the same numbers are the same
report_apart : (a b : Result Damage Refusal) → number a ≡ number b → finding a ≡ finding b → a ≡ b
unfolding number
report_apart (Ok x) (Ok y) e f = ap Ok (found_apart x y f)
report_apart (Ok x) (Err r) e f = absurd (refused {A = Damage} {x = Err r} refl (sym e))
report_apart (Err q) (Ok y) e f = absurd (refused {A = Damage} {x = Err q} refl e)
report_apart (Err q) (Err r) e f =
    let h : ◌≡◌ {A = Answer} (Err q) (Err r) = number_apart (Err q) (Err r) e in
    let k : q ≡ r = cc in ap Err k

pub locate_one : (sh : Shape) (s : List ℕ) (a b : Result Damage Refusal) → Locate sh s a → Locate sh s b → a ≡ b
locate_one sh s a b p q =
    let (e, f) = outcome_one (λ h x y u v. let (good, len) = (stripe_done sh s).1 h in names_one sh s good len x y u v)
    (number a) (number b) (finding a) (finding b) p q in report_apart a b e f

pub locate_some : (sh : Shape) (s : List ℕ) → (r : Result Damage Refusal) × Locate sh s r
unfolding number
locate_some sh s =
    let (a, f, h) = call_some {T = stripe_table sh s} Sound (λ (f : Damage). Names sh s (found f)) (stripe_ready sh s)
    (λ h. let (good, len) = (stripe_done sh s).1 h in names_some sh s good len) in at a f h
  where
    at : (a : Answer) (f : Damage) → Outcome (stripe_table sh s) Sound (λ (f : Damage). Names sh s (found f)) (number a) f → (r : Result Damage Refusal) × Locate sh s r
    at (Ok u) f h = (Ok f, record { answer = h.answer; refused = λ ne. absurd (ne refl); done = h.done })
    at (Err r) f h = (Err r, record { answer = h.answer; refused = λ ne. refl; done = λ z. absurd (refused {A = Damage} {x = Err r} refl z) })
