-- The outcomes of small write and raw store by their guard clauses, over how many rows may be written: each refusal where those before it do not
-- apply, and done.
use mathlib.Core.Path.{◌≡◌, refl}
use mathlib.Core.Logic.{◌≢◌, ◌⊎◌, inl, inr}
use mathlib.Core.List.{List, [], ◌∷◌, ◌++◌}
use Prim.Native.Nat.{ℕ, ◌≤◌, ◌<◌}
use native.Mathlib.Omega.{arith}
use lib.ListN.{length}
use Rattle.shape.specs.declared.Shape.{Shape}
use Rattle.shape.specs.Good.{Good, size}
use Rattle.answer.specs.Answers.{Table, First}
use Rattle.shape.specs.Refusals.{stripe_table}
use Rattle.answer.specs.Outcome.{Outcome}
use Rattle.shape.proofs.GoodLaws.{stripe_pass}
use Rattle.shape.proofs.Asked.{stripe_stop}

-- the table of both
abbrev pub struck_table : Shape → List ℕ → ℕ → ℕ → ℕ → List ℕ → Table
struck_table sh s rows c r x = stripe_table sh s ++ ((6, (sh.n ≤ c) ⊎ (rows ≤ r)) ∷ (8, length x ≢ sh.w) ∷ [])

-- refused, the stripe is as it was
refuse : {A : Type 0} {T : Table} {kept : A} {Does : A → Type 0} {k : ℕ} → First T k → k ≢ 0 → Outcome T kept Does k kept
refuse h ne = record { answer = h; refused = λ z. refl; done = λ z. absurd (ne z) }

module _ (sh : Shape) (s : List ℕ) (rows c r : ℕ) (x : List ℕ) where
  inside : c < sh.n → r < rows → ¬ ((sh.n ≤ c) ⊎ (rows ≤ r))
  inside hc hr (inl h) = omega arith
  inside hc hr (inr h) = omega arith

  -- no row applies
  pub struck_passed : Good sh → length s ≡ size sh → c < sh.n → r < rows → length x ≡ sh.w → First (struck_table sh s rows c r x) 0
  struck_passed good len hc hr e = stripe_pass sh s _ 0 good len (inr (inside hc hr, inr ((λ ne. ne e), refl)))

  module _ (Does : List ℕ → Type 0) where
    pub struck_stop : (k : ℕ) → First (stripe_table sh s) k → k ≢ 0 → Outcome (struck_table sh s rows c r x) s Does k s
    struck_stop k h ne = refuse (stripe_stop sh s _ k h ne) ne

    module _ (good : Good sh) (len : length s ≡ size sh) where
      pub struck_6 : (sh.n ≤ c) ⊎ (rows ≤ r) → Outcome (struck_table sh s rows c r x) s Does 6 s
      struck_6 h = refuse (stripe_pass sh s _ 6 good len (inl (h, refl))) (λ z. omega arith)

      module _ (hc : c < sh.n) (hr : r < rows) where
        pub struck_8 : length x ≢ sh.w → Outcome (struck_table sh s rows c r x) s Does 8 s
        struck_8 h = refuse (stripe_pass sh s _ 8 good len (inr (inside hc hr, inl (h, refl)))) (λ z. omega arith)

        pub struck_done : length x ≡ sh.w → (s' : List ℕ) → Does s' → Outcome (struck_table sh s rows c r x) s Does 0 s'
        struck_done e s' d = record { answer = struck_passed good len hc hr e; refused = λ ne. absurd (ne refl); done = λ z. d }
