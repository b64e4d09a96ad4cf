-- What the code gives for each of the program's own refusals, and for none.
-- To cite: told_11, told_14, told_13, told_0; deed_err, told_early.
use mathlib.Core.Path.{◌≡◌, refl, ◌∙◌}
use mathlib.Core.Logic.{inl, inr}
use mathlib.Core.List.{List}
use Prim.Native.Nat.{ℕ}
use native.Mathlib.Omega.{arith}
use Rattle.std.specs.Prelude.{Result, Err, ok_or}
use Rattle.answer.specs.declared.Refusal.{Refusal}
use Rattle.answer.specs.declared.Refusal.TheVariants.{UnknownKind, BadPayload, NoShape}
use Rattle.answer.specs.Answers.{refusal_number, number}
use Rattle.kinds.specs.declared.Numbers.{Numbers}
use Rattle.kinds.specs.declared.Deed.{Deed}
use Rattle.kinds.specs.Kinds.{Held, Kind, Shapeless, kind_number, Unknown, Early, Wrong, deed, deed_of, Does, TellsOf}
use Rattle.kinds.specs.Holding.{Accepted}
use Rattle.kinds.proofs.HoldingLaws.{asked_none}
use Rattle.kinds.proofs.KindsLaws.{job_11, job_14, job_13, job_0}

-- ---- the program's own refusals, and none of them; d is what the code gives

module _ (h : Held) (p s : List ℕ) (room : ℕ) (work' : List ℕ) (d : Deed) where
  pub told_11 : (kind : ℕ) → Unknown kind → d ≡ deed h (number {A = Unit {0}} (Err UnknownKind)) 0 0 → TellsOf kind h p s room d s work'
  unfolding number refusal_number
  told_11 kind u is = (11, job_11 h kind p u, inl ((λ e. omega arith), is, refl))

  module _ (k : Kind) where
    pub told_14 : Early k h → d ≡ deed h (number {A = Unit {0}} (Err NoShape)) 0 0 → TellsOf (kind_number k) h p s room d s work'
    unfolding number refusal_number
    told_14 early is = (14, job_14 h (kind_number k) p k refl early, inl ((λ e. omega arith), is, refl))

    module _ (late : ¬ Early k h) where
      pub told_13 : Wrong k p → d ≡ deed h (number {A = Unit {0}} (Err BadPayload)) 0 0 → TellsOf (kind_number k) h p s room d s work'
      unfolding number refusal_number
      told_13 wrong is = (13, job_13 h (kind_number k) p k refl late wrong, inl ((λ e. omega arith), is, refl))

      pub told_0 : (s' : List ℕ) → ¬ Wrong k p → Does k h p s room d s' work' → TellsOf (kind_number k) h p s room d s' work'
      told_0 s' right does = (0, job_0 h (kind_number k) p k refl late right, inr (refl, (k, refl, does)))

-- ---- what `?` hands on

-- the result is this refusal, as an answer of any type
abbrev pub Handed : {A : Type 0} → Result A Refusal → Refusal → Type 0
Handed r e = (x : Refusal) × (r ≡ Err x) × (x ≡ e)

pub deed_err : (A : Type 0) (h : Held) (r : Result Numbers Refusal) (e : Refusal) → Handed r e → deed_of h r ≡ deed h (number {A = A} (Err e)) 0 0
unfolding number
deed_err A h r e (x, is, same) = rw (is, same) refl

-- no shape is held
pub told_early : (k : Kind) (h : Held) (p s : List ℕ) (room : ℕ) (work' : List ℕ) (r : Result Numbers Refusal) (e : Refusal) (a : Held)
    → (Shapeless h → Early k h) → Accepted h a → Err e ≡ ok_or a NoShape → Handed r e → TellsOf (kind_number k) h p s room (deed_of h r) s work'
told_early k h p s room work' r e a early accepted is (x, u, v) =
    let (same, none) = asked_none h a NoShape e accepted is in
    told_14 h p s room work' (deed_of h r) k (early none) (deed_err (Unit {0}) h r NoShape (x, u, v ∙ same))
