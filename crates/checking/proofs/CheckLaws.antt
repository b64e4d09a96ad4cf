-- Laws of check: one report, and some; no chain is broken exactly when the stripe obeys the rule.
use mathlib.Core.Path.{◌≡◌, refl, sym, ap, ap₂, ◌∙◌}
use mathlib.Core.Logic.{◌↔◌}
use mathlib.Core.Bool.{Bool, true, false, not, cond, ◌||◌, true≢false}
use mathlib.Core.List.{List}
use Prim.Native.Nat.{ℕ, zero, suc, ◌+◌, ◌<◌}
use native.Mathlib.Omega.{arith}
use native.Mathlib.Decide.{ℕ_discrete}
use borrow.Author.Tests.{eqb-true, eq-eqb, not-false}
use Rattle.std.specs.Prelude.{Result, Ok, Err}
use Rattle.shape.specs.declared.Shape.{Shape}
use Rattle.answer.specs.declared.Refusal.{Refusal}
use Rattle.answer.specs.Answers.{Answer, number}
use Rattle.answer.specs.Outcome.{Outcome}
use Rattle.answer.proofs.AnswersLaws.{number_apart, refused}
use Rattle.answer.proofs.OutcomeLaws.{outcome_one, call_some}
use Rattle.shape.specs.Refusals.{stripe_table}
use Rattle.shape.proofs.Ready.{stripe_ready}
use Rattle.rule.specs.Rule.{Obeys}
use Rattle.rule.proofs.RuleLaws.{obeys_differs}
use Rattle.checking.specs.declared.Checked.{Checked}
use Rattle.checking.specs.Check.{some, count, breaks, broken_chains, differing_bits, counts, Check}

-- two reports with the same numbers are the same
report_apart : (a b : Result Checked Refusal) → number a ≡ number b → counts a ≡ counts b → a ≡ b
unfolding number
report_apart (Ok x) (Ok y) e f = λ i. Ok (record { broken = (f i).0; bits = (f i).1 })
report_apart (Ok x) (Err r) e f = absurd (refused {A = Checked} {x = Err r} refl (sym e))
report_apart (Err q) (Ok y) e f = absurd (refused {A = Checked} {x = Err q} refl e)
report_apart (Err q) (Err r) e f =
    let h : ◌≡◌ {A = Answer} (Err q) (Err r) = number_apart (Err q) (Err r) e in
    let k : q ≡ r = cc in ap Err k

pub check_one : (sh : Shape) (s : List ℕ) (a b : Result Checked Refusal) → Check sh s a → Check sh s b → a ≡ b
check_one sh s a b p q =
    let (e, f) = outcome_one (λ h x y u v. u ∙ sym v) (number a) (number b) (counts a) (counts b) p q in report_apart a b e f

pub check_some : (sh : Shape) (s : List ℕ) → (r : Result Checked Refusal) × Check sh s r
unfolding number
check_some sh s = let (a, x, h) = call_some {A = ℕ × ℕ} (0, 0) _ (stripe_ready sh s) (λ h. (_, refl)) in at a x h
  where
    at : (a : Answer) (x : ℕ × ℕ) → Outcome (stripe_table sh s) (0, 0) (λ (x : ℕ × ℕ). x ≡ (broken_chains sh s, differing_bits sh s)) (number a) x
        → (r : Result Checked Refusal) × Check sh s r
    at (Ok u) x h = (Ok (record { broken = x.0; bits = x.1 }), h)
    at (Err r) x h = (Err r, record { answer = h.answer; refused = λ ne. refl; done = λ z. absurd (refused {A = Checked} {x = Err r} refl z) })

-- ---- none of them

-- what a test that fails at each number below k leaves
pub some_false : (k : ℕ) (f : ℕ → Bool) → (some k f ≡ false) ↔ ((i : ℕ) → i < k → f i ≡ false)
unfolding some
some_false zero f = ((λ e i h. absurd (omega arith)), (λ h. refl))
some_false (suc k) f = let ih = some_false k f in (
  (λ e i h. at i h (some k f) (f k) e refl refl (λ z l. ih.0 z i l) (ℕ_discrete i k)),
  (λ h. ap₂ ◌||◌ (ih.1 (λ i l. h i (omega arith))) (h k (omega arith))),
)
  where
    at : (i : ℕ) → i < suc k → (a b : Bool) → (a || b) ≡ false → some k f ≡ a → f k ≡ b → (some k f ≡ false → i < k → f i ≡ false) → Dec (i ≡ k) → f i ≡ false
    at i h true b z p q ih d = absurd (true≢false z)
    at i h false true z p q ih d = absurd (true≢false z)
    at i h false false z p q ih (yes e) = ap f e ∙ q
    at i h false false z p q ih (no ne) = ih p (omega arith)

count_none : (k : ℕ) (f : ℕ → Bool) → (count k f ≡ 0) ↔ ((i : ℕ) → i < k → f i ≡ false)
unfolding count
count_none zero f = ((λ e i h. absurd (omega arith)), (λ h. refl))
count_none (suc k) f = let ih = count_none k f in (
  (λ e i h. at i h (f k) refl e (λ z l. ih.0 z i l) (ℕ_discrete i k)),
  (λ h. ap₂ (λ (x : ℕ) (b : Bool). x + cond b 1 0) (ih.1 (λ i l. h i (omega arith))) (h k (omega arith))),
)
  where
    at : (i : ℕ) → i < suc k → (b : Bool) → f k ≡ b → count k f + cond b 1 0 ≡ 0 → (count k f ≡ 0 → i < k → f i ≡ false) → Dec (i ≡ k) → f i ≡ false
    at i h true q z ih d = absurd (omega arith)
    at i h false q z ih (yes e) = ap f e ∙ q
    at i h false q z ih (no ne) = ih (omega arith) (omega arith)

pub none_broken : (sh : Shape) (s : List ℕ) → (broken_chains sh s ≡ 0) ↔ Obeys sh s
unfolding broken_chains breaks
none_broken sh s = (
  (λ e. (obeys_differs sh s).1 (λ p t hp ht.
      eqb-true _ _ (not-false _ ((some_false sh.w _).0 ((count_none sh.n (breaks sh s)).0 e p hp) t ht)))),
  (λ ob. (count_none sh.n (breaks sh s)).1 (λ p hp. (some_false sh.w _).1 (λ t ht. ap not (eq-eqb _ _ ((obeys_differs sh s).0 ob p t hp ht))))),
)
