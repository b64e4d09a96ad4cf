-- Laws of the kinds and of the program's refusals: which kind a number is, each refusal where those before it do not apply, and some number for every record.
-- To cite: job_11, job_14, job_13, job_0, job_passed, job_ready with table_some; of_kind, kind_low, unknown.
use mathlib.Core.Path.{◌≡◌, refl, sym, ap, ◌∙◌, subst}
use mathlib.Core.Logic.Dec
use mathlib.Core.Logic.{◌≢◌, inl, inr}
use mathlib.Core.List.{List, [], ◌∷◌}
use Prim.Native.Nat.{ℕ, ◌+◌, ◌<◌}
use native.Mathlib.Omega.{arith}
use native.Mathlib.Decide.{dec_lt, ℕ_discrete}
use lib.ListN.{length, get_or}
use Rattle.shape.specs.declared.Shape.{Shape}
use Rattle.std.specs.Prelude.{None, Some, Err}
use Rattle.answer.specs.declared.Refusal.TheVariants.{UnknownKind, BadPayload, NoShape}
use Rattle.shape.specs.Good.{Good}
use Rattle.answer.specs.Answers.{refusal_number, number, Table, First}
use Rattle.shape.specs.Refusals.{shape_table}
use Rattle.answer.proofs.AnswersLaws.{first_one, first_clear}
use Rattle.shape.proofs.GoodLaws.{shape_done}
use Rattle.answer.proofs.OutcomeLaws.{Ready, call_some, either?}
use Rattle.shape.proofs.Ready.{shape_ready}
use Rattle.kinds.specs.Kinds.{Held, Shapeless, Kind, shaping, writing, storing, checking, locating, rebuilding, kind_number, Unknown, Early, Wrong, Of, job_table}

-- ---- the kind of a number

in_order : List Kind
in_order = shaping ∷ shaping ∷ writing ∷ storing ∷ checking ∷ locating ∷ rebuilding ∷ []

at_number : (k : Kind) → get_or in_order (kind_number k) shaping ≡ k
unfolding in_order kind_number
at_number shaping = refl
at_number writing = refl
at_number storing = refl
at_number checking = refl
at_number locating = refl
at_number rebuilding = refl

kind_apart : (k l : Kind) → kind_number k ≡ kind_number l → k ≡ l
kind_apart k l e = sym (at_number k) ∙ ap (λ (i : ℕ). get_or in_order i shaping) e ∙ at_number l

pub of_kind : (kind : ℕ) (P : Kind → Type 0) → Of kind P → (k : Kind) → kind ≡ kind_number k → P k
of_kind kind P (l, f, p) k e = subst P (kind_apart l k (sym f ∙ e)) p

-- no kind is a client's
pub kind_low : (k : Kind) → kind_number k < 32768
unfolding kind_number
kind_low shaping = omega arith
kind_low writing = omega arith
kind_low storing = omega arith
kind_low checking = omega arith
kind_low locating = omega arith
kind_low rebuilding = omega arith

-- a number that is none of the six
pub unknown : (kind : ℕ) → kind ≢ kind_number shaping → kind ≢ kind_number writing → kind ≢ kind_number storing → kind ≢ kind_number checking
    → kind ≢ kind_number locating → kind ≢ kind_number rebuilding → Unknown kind
unknown kind a b c d e f shaping = a
unknown kind a b c d e f writing = b
unknown kind a b c d e f storing = c
unknown kind a b c d e f checking = d
unknown kind a b c d e f locating = e
unknown kind a b c d e f rebuilding = f

-- which kind a number is, if any
kind? : (kind : ℕ) → Dec ((k : Kind) × (kind ≡ kind_number k))
kind? kind =
    at shaping (λ a. at writing (λ b. at storing (λ c. at checking (λ d. at locating (λ e. at rebuilding (λ f. no (λ z. unknown kind a b c d e f z.0 z.1)))))))
  where
    at : (k : Kind) → (kind ≢ kind_number k → Dec ((k : Kind) × (kind ≡ kind_number k))) → Dec ((k : Kind) × (kind ≡ kind_number k))
    at k next = by (ℕ_discrete kind (kind_number k))
      where
        by : Dec (kind ≡ kind_number k) → Dec ((k : Kind) × (kind ≡ kind_number k))
        by (yes e) = yes (k, e)
        by (no e) = next e

-- ---- the program's refusals are decided

pub table_some : (T : Table) → Ready T → (k : ℕ) × First T k
table_some T ready = let (a, x, o) = call_some {A = Unit {0}} {T = T} tt (λ x. Unit {0}) ready (λ h. (tt, tt)) in (number a, o.answer)

good? : (sh : Shape) → Dec (Good sh)
good? sh = let (k, f) = table_some (shape_table sh) (shape_ready sh) in at k f (ℕ_discrete k 0)
  where
    at : (k : ℕ) → First (shape_table sh) k → Dec (k ≡ 0) → Dec (Good sh)
    at k f (yes e) = yes ((shape_done sh).1 (rw e at f))
    at k f (no e) = no (λ g. e (first_one (shape_table sh) k 0 f ((shape_done sh).0 g)))

shapeless? : (h : Held) → Dec (Shapeless h)
shapeless? None = yes tt
shapeless? (Some sh) = Dec.not (good? sh)

unknown? : (kind : ℕ) → Dec (Unknown kind)
unknown? kind = at (kind? kind)
  where
    at : Dec ((k : Kind) × (kind ≡ kind_number k)) → Dec (Unknown kind)
    at (yes z) = no (λ u. u z.0 z.1)
    at (no z) = yes (λ k e. z (k, e))

early? : (h : Held) (k : Kind) → Dec (Early k h)
early? h shaping = no (λ z. z)
early? h writing = shapeless? h
early? h storing = shapeless? h
early? h checking = shapeless? h
early? h locating = shapeless? h
early? h rebuilding = shapeless? h

wrong? : (p : List ℕ) (k : Kind) → Dec (Wrong k p)
wrong? p shaping = Dec.not (ℕ_discrete (length p) 4)
wrong? p writing = dec_lt (length p) 2
wrong? p storing = dec_lt (length p) 2
wrong? p checking = Dec.not (ℕ_discrete (length p) 0)
wrong? p locating = Dec.not (ℕ_discrete (length p) 0)
wrong? p rebuilding = either? (dec_lt 2 (get_or p 0 0)) (Dec.not (ℕ_discrete (length p) (1 + get_or p 0 0)))

of? : (kind : ℕ) (P : Kind → Type 0) → ((k : Kind) → Dec (P k)) → Dec (Of kind P)
of? kind P p? = at (kind? kind)
  where
    at : Dec ((k : Kind) × (kind ≡ kind_number k)) → Dec (Of kind P)
    at (no z) = no (λ o. z (o.0, o.1))
    at (yes (k, e)) = by (p? k)
      where
        by : Dec (P k) → Dec (Of kind P)
        by (yes p) = yes (k, e, p)
        by (no p) = no (λ o. p (of_kind kind P o k e))

pub job_ready : (h : Held) (kind : ℕ) (p : List ℕ) → Ready (job_table h kind p)
unfolding job_table number refusal_number
job_ready h kind p = (
  (Err UnknownKind),
  refl,
  unknown? kind,
  λ a. ((Err NoShape), refl, of? kind (λ k. Early k h) (early? h), λ b. ((Err BadPayload), refl, of? kind (λ k. Wrong k p) (wrong? p), λ c. tt)),
)

-- each of them, where those before it do not apply, whatever those behind it say
kind_known : (kind : ℕ) (k : Kind) → kind ≡ kind_number k → ¬ Unknown kind
kind_known kind k e u = u k e

module _ (h : Held) (kind : ℕ) (p : List ℕ) where
  pub job_11 : Unknown kind → First (job_table h kind p) 11
  unfolding job_table
  job_11 u = inl (u, refl)

  pub job_14 : (k : Kind) → kind ≡ kind_number k → Early k h → First (job_table h kind p) 14
  unfolding job_table
  job_14 k e z = inr (kind_known kind k e, inl ((k, e, z), refl))

  pub job_13 : (k : Kind) → kind ≡ kind_number k → ¬ Early k h → Wrong k p → First (job_table h kind p) 13
  unfolding job_table
  job_13 k e n z = inr (kind_known kind k e, inr ((λ o. n (of_kind kind (λ k. Early k h) o k e)), inl ((k, e, z), refl)))

  pub job_0 : (k : Kind) → kind ≡ kind_number k → ¬ Early k h → ¬ Wrong k p → First (job_table h kind p) 0
  unfolding job_table
  job_0 k e n z =
      inr (kind_known kind k e, inr ((λ o. n (of_kind kind (λ k. Early k h) o k e)), inr ((λ o. z (of_kind kind (λ k. Wrong k p) o k e)), refl)))

-- a record that the program does not refuse: of a kind, not before a shape that it needs, and with the payload right
pub job_passed : (h : Held) (kind : ℕ) (p : List ℕ) → First (job_table h kind p) 0 → (k : Kind) × (kind ≡ kind_number k) × (¬ Early k h) × (¬ Wrong k p)
unfolding job_table
job_passed h kind p f =
    let (known, g) = first_clear 10 f in let (late, i) = first_clear 13 g in let (right, j) = first_clear 12 i in at known late right (kind? kind)
  where
    at : ¬ Unknown kind → ¬ Of kind (λ k. Early k h) → ¬ Of kind (λ k. Wrong k p) → Dec ((k : Kind) × (kind ≡ kind_number k))
        → (k : Kind) × (kind ≡ kind_number k) × (¬ Early k h) × (¬ Wrong k p)
    at known late right (yes (k, e)) = (k, e, (λ z. late (k, e, z)), (λ z. right (k, e, z)))
    at known late right (no z) = absurd (known (λ k e. z (k, e)))
