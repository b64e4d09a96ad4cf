-- Laws of answers and tables of refusals.
-- To cite: number_apart, number_done; refused for an `Err`; first_one, first_stop, first_pass, first_split, first_clear, first_lowest; Like with like_first.
use mathlib.Core.Path.{◌≡◌, refl, sym, ap, ◌∙◌}
use mathlib.Core.Logic.Iff
use mathlib.Core.Logic.{◌↔◌, ◌≢◌, ◌⊎◌, inl, inr}
use mathlib.Core.List.{List, [], ◌∷◌, ◌++◌}
use Prim.Native.Nat.{ℕ, suc, ◌-◌, ◌≤◌, ◌<◌}
use Rattle.std.specs.Prelude.{Result, Ok, Err}
use native.Mathlib.Omega.{arith}
use lib.ListN.{get_or}
use Rattle.answer.specs.declared.Refusal.{Refusal}
use Rattle.answer.specs.declared.Refusal.TheVariants.{BadRows, BadColumns, BadSymbol, BadStripe, SmallWorkspace, NoSuchPlace, SameColumn, BadBuffer, Disagree, NoSuchStock, UnknownKind, BadRecord, BadPayload, NoShape}
use Rattle.answer.specs.Answers.{Answer, refusal_number, number, Table, First, Applies, Rises}

-- ---- numbers tell refusals and answers apart

in_order : List Refusal
in_order =
    BadRows ∷ BadColumns ∷ BadSymbol ∷ BadStripe ∷ SmallWorkspace ∷ NoSuchPlace ∷ SameColumn ∷ BadBuffer ∷ Disagree
    ∷ NoSuchStock ∷ UnknownKind ∷ BadRecord ∷ BadPayload ∷ NoShape ∷ []

at_number : (r : Refusal) → get_or in_order (refusal_number r - 1) NoShape ≡ r
unfolding refusal_number in_order
at_number BadRows = refl
at_number BadColumns = refl
at_number BadSymbol = refl
at_number BadStripe = refl
at_number SmallWorkspace = refl
at_number NoSuchPlace = refl
at_number SameColumn = refl
at_number BadBuffer = refl
at_number Disagree = refl
at_number NoSuchStock = refl
at_number UnknownKind = refl
at_number BadRecord = refl
at_number BadPayload = refl
at_number NoShape = refl

above_0 : (r : Refusal) → 0 < refusal_number r
unfolding refusal_number
above_0 BadRows = omega arith
above_0 BadColumns = omega arith
above_0 BadSymbol = omega arith
above_0 BadStripe = omega arith
above_0 SmallWorkspace = omega arith
above_0 NoSuchPlace = omega arith
above_0 SameColumn = omega arith
above_0 BadBuffer = omega arith
above_0 Disagree = omega arith
above_0 NoSuchStock = omega arith
above_0 UnknownKind = omega arith
above_0 BadRecord = omega arith
above_0 BadPayload = omega arith
above_0 NoShape = omega arith

-- the number of a refusal is not 0; that of an answer that is none is
pub refused : {A : Type 0} {x : Result A Refusal} {r : Refusal} → x ≡ Err r → number x ≢ 0
unfolding number
refused {r = r} e z = omega (arith, above_0 r, ap number e)

pub given : {A : Type 0} {x : Result A Refusal} {v : A} → x ≡ Ok v → number x ≡ 0
unfolding number
given e = ap number e

pub number_apart : (a b : Answer) → number a ≡ number b → a ≡ b
unfolding number
number_apart (Ok x) (Ok y) e = refl
number_apart (Ok x) (Err b) e = absurd (omega (arith, above_0 b))
number_apart (Err a) (Ok y) e = absurd (omega (arith, above_0 a))
number_apart (Err a) (Err b) e = ap Err (sym (at_number a) ∙ ap (λ (k : ℕ). get_or in_order (k - 1) NoShape) e ∙ at_number b)

-- 0 means done
pub number_done : (a : Answer) → (number a ≡ 0) ↔ (a ≡ Ok tt)
unfolding number
number_done a = (number_apart a (Ok tt), ap number)

pub not_done : (a : Answer) → a ≢ Ok tt → number a ≢ 0
not_done a k z = k ((number_done a).0 z)

-- ---- the first row that applies

pub first_one : (T : Table) (j k : ℕ) → First T j → First T k → j ≡ k
first_one [] j k p q = p ∙ sym q
first_one (row ∷ T) j k (inl p) (inl q) = p.1 ∙ sym q.1
first_one (row ∷ T) j k (inl p) (inr q) = absurd (q.0 p.0)
first_one (row ∷ T) j k (inr p) (inl q) = absurd (p.0 q.0)
first_one (row ∷ T) j k (inr p) (inr q) = first_one T j k p.1 q.1

-- of a table in two parts: the first refuses, or is passed; a number that it lacks is the second's
pub first_stop : (T U : Table) (k : ℕ) → First T k → k ≢ 0 → First (T ++ U) k
first_stop [] U k h ne = absurd (ne h)
first_stop (row ∷ T) U k (inl h) ne = inl h
first_stop (row ∷ T) U k (inr h) ne = inr (h.0, first_stop T U k h.1 ne)

-- no row has the number k
abbrev pub Lacks : ℕ → Table → Type 0
Lacks k [] = Unit {0}
Lacks k (row ∷ T) = (row.0 ≢ k) × Lacks k T

pub first_pass : (T U : Table) (k : ℕ) → Lacks 0 T → First T 0 → First U k → First (T ++ U) k
first_pass [] U k pos h g = g
first_pass (row ∷ T) U k pos (inl h) g = absurd (pos.0 (sym h.1))
first_pass (row ∷ T) U k pos (inr h) g = inr (h.0, first_pass T U k pos.1 h.1 g)

pub first_split : (T U : Table) (k : ℕ) → Lacks k T → First (T ++ U) k → First T 0 × First U k
first_split [] U k no_k h = (refl, h)
first_split (row ∷ T) U k no_k (inl h) = absurd (no_k.0 (sym h.1))
first_split (row ∷ T) U k no_k (inr h) = let r = first_split T U k no_k.1 h.1 in (inr (h.0, r.0), r.1)

-- done: the first row does not apply, nor does the rest
pub first_clear : {A R : Type 0} (k : ℕ) → (A × (0 ≡ suc k)) ⊎ ((¬ A) × R) → (¬ A) × R
first_clear k (inl h) = absurd (omega (arith, h.1))
first_clear k (inr h) = h

-- ---- where the numbers rise, the first is the lowest

above : (T : Table) (b : ℕ) → Rises b T → (j : ℕ) → Applies T j → b < j
above [] b h j z = absurd z
above (row ∷ T) b h j (inl z) = omega (arith, h.0, z.1)
above (row ∷ T) b h j (inr z) = let k = above T row.0 h.1 j z in omega (arith, h.0)

pub first_lowest : (T : Table) (b : ℕ) → Rises b T → (k : ℕ) → First T k → (k ≢ 0 → Applies T k) × ((j : ℕ) → Applies T j → (k ≢ 0) × (k ≤ j))
first_lowest [] b h k e = ((λ ne. absurd (ne e)), λ j z. absurd z)
first_lowest (row ∷ T) b h k (inl z) = ((λ ne. inl z), at)
  where
    at : (j : ℕ) → (row.1 × (j ≡ row.0)) ⊎ Applies T j → (k ≢ 0) × (k ≤ j)
    at j (inl y) = ((λ e. omega (arith, h.0, z.1)), omega (arith, z.1, y.1))
    at j (inr y) = let l = above T row.0 h.1 j y in ((λ e. omega (arith, h.0, z.1)), omega (arith, z.1))
first_lowest (row ∷ T) b h k (inr z) = let ih = first_lowest T row.0 h.1 k z.1 in ((λ ne. inr (ih.0 ne)), at ih.1)
  where
    at : ((j : ℕ) → Applies T j → (k ≢ 0) × (k ≤ j)) → (j : ℕ) → (row.1 × (j ≡ row.0)) ⊎ Applies T j → (k ≢ 0) × (k ≤ j)
    at ih j (inl y) = absurd (z.0 y.0)
    at ih j (inr y) = ih j y

-- ---- two tables of the same numbers, whose conditions come to the same

abbrev pub Like : Table → Table → Type 0
Like [] [] = Unit {0}
Like [] (q ∷ U) = ⊥
Like (r ∷ T) [] = ⊥
Like (r ∷ T) (q ∷ U) = (r.0 ≡ q.0) × (r.1 ↔ q.1) × Like T U

pub like_refl : (T : Table) → Like T T
like_refl [] = tt
like_refl (row ∷ T) = (refl, Iff.rfl, like_refl T)

pub like_append : (T U P Q : Table) → Like T U → Like P Q → Like (T ++ P) (U ++ Q)
like_append [] [] P Q h g = g
like_append [] (q ∷ U) P Q h g = absurd h
like_append (r ∷ T) [] P Q h g = absurd h
like_append (r ∷ T) (q ∷ U) P Q h g = (h.0, h.1, like_append T U P Q h.2 g)

pub like_first : (T U : Table) (k : ℕ) → Like T U → First T k → First U k
like_first [] [] k l h = h
like_first [] (q ∷ U) k l h = absurd l
like_first (r ∷ T) [] k l h = absurd l
like_first (r ∷ T) (q ∷ U) k l (inl h) = inl (l.1.0 h.0, h.1 ∙ l.0)
like_first (r ∷ T) (q ∷ U) k l (inr h) = inr ((λ z. h.0 (l.1.1 z)), like_first T U k l.2 h.1)
