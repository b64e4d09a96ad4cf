-- Laws of Outcome: one outcome where what is done is one, some outcome where each row is decided, the same by a like table.
use mathlib.Core.Path.{◌≡◌, refl, sym, ◌∙◌}
use mathlib.Core.Logic.{◌⊎◌, inl, inr}
use mathlib.Core.List.{[], ◌∷◌, ◌++◌}
use Prim.Native.Nat.{ℕ}
use native.Mathlib.Decide.{ℕ_discrete}
use Rattle.std.specs.Prelude.{Ok, Err}
use Rattle.answer.specs.declared.Refusal.{Refusal}
use Rattle.answer.specs.Answers.{Answer, number, Table, First}
use Rattle.answer.specs.Outcome.{Outcome, Unnumbered}
use Rattle.answer.proofs.AnswersLaws.{number_apart, refused, first_one}

-- ---- one outcome

module _ {A : Type 0} {T : Table} {kept : A} {Does : A → Type 0} (one : First T 0 → (x y : A) → Does x → Does y → x ≡ y) where
  pub outcome_one : (j k : ℕ) (x y : A) → Outcome T kept Does j x → Outcome T kept Does k y → (j ≡ k) × (x ≡ y)
  outcome_one j k x y p q = (e, at (ℕ_discrete j 0))
    where
      e : j ≡ k
      e = first_one T j k p.answer q.answer

      at : Dec (j ≡ 0) → x ≡ y
      at (yes z) = one (rw z at p.answer) x y (p.done z) (q.done (sym e ∙ z))
      at (no z) = p.refused z ∙ sym (q.refused (λ u. z (e ∙ u)))

  -- with the answer for its number
  pub call_one : (a b : Answer) (x y : A) → Outcome T kept Does (number a) x → Outcome T kept Does (number b) y → (a ≡ b) × (x ≡ y)
  call_one a b x y p q = let z = outcome_one (number a) (number b) x y p q in (number_apart a b z.0, z.1)

  pub part_one : (x y : A) → Unnumbered T kept Does x → Unnumbered T kept Does y → x ≡ y
  part_one x y (j, p) (k, q) = (outcome_one j k x y p q).1

-- ---- what a call hands on: a refusal leaves what was lent as it was, and says so whatever the call would have given

pub err_like : (B C : Type 0) (r : Refusal) → number {A = B} (Err r) ≡ number {A = C} (Err r)
unfolding number
err_like B C r = refl

pub outcome_refused : {A : Type 0} {T : Table} {kept : A} {Does : A → Type 0} (B C : Type 0) (r : Refusal) → First T (number {A = B} (Err r)) → Outcome T kept Does (number {A = C} (Err r)) kept
outcome_refused B C r h =
    record { answer = rw (err_like B C r) at h; refused = λ ne. refl; done = λ z. absurd (refused {A = C} refl z) }

-- done, it is as it says
pub outcome_given : {A B C : Type 0} {T : Table} {kept : A} {Does : A → Type 0} {x : A} (u : B) (v : C) → First T (number (Ok u)) → Does x → Outcome T kept Does (number (Ok v)) x
unfolding number
outcome_given u v h d = record { answer = h; refused = λ ne. absurd (ne refl); done = λ z. d }

-- ---- some outcome

-- each row has an answer of its number, and is decided where those before it do not apply
abbrev pub Ready : Table → Type 0
Ready [] = Unit {0}
Ready (row ∷ T) = (a : Answer) × (number a ≡ row.0) × Dec row.1 × ((¬ row.1) → Ready T)

pub ready_append : (T U : Table) → Ready T → (First T 0 → Ready U) → Ready (T ++ U)
ready_append [] U r f = f refl
ready_append (row ∷ T) U (a, e, d, r) f = (a, e, d, (λ n. ready_append T U (r n) (λ h. f (inr (n, h)))))

ready_answer : (T : Table) → Ready T → (a : Answer) × First T (number a)
unfolding number
ready_answer [] r = (Ok tt, refl)
ready_answer (row ∷ T) (a, e, yes p, f) = (a, inl (p, e))
ready_answer (row ∷ T) (a, e, no p, f) = let z = ready_answer T (f p) in (z.0, inr (p, z.1))

module _ {A : Type 0} {T : Table} (kept : A) (Does : A → Type 0) (ready : Ready T) (some : First T 0 → (x : A) × Does x) where
  pub call_some : (a : Answer) × (x : A) × Outcome T kept Does (number a) x
  call_some = let (a, h) = ready_answer T ready in at a h (ℕ_discrete (number a) 0)
    where
      at : (a : Answer) → First T (number a) → Dec (number a ≡ 0) → (a : Answer) × (x : A) × Outcome T kept Does (number a) x
      at a h (yes z) =
          let (x, d) = some (rw z at h) in (a, x, record { answer = h; refused = λ n. absurd (n z); done = λ e. d })
      at a h (no z) = (a, kept, record { answer = h; refused = λ n. refl; done = λ e. absurd (z e) })

  pub part_some : (x : A) × Unnumbered T kept Does x
  part_some = let (a, x, h) = call_some in (x, (number a, h))

pub either? : {A B : Type 0} → Dec A → Dec B → Dec (A ⊎ B)
either? (yes p) q = yes (inl p)
either? (no p) (yes q) = yes (inr q)
either? (no p) (no q) = no (λ z. elim z [ inl a ↦ p a | inr b ↦ q b ])
