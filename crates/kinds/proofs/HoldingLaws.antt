-- Laws of the shape held: what `accepted` finds, and what a kind that goes by it does.
-- To cite: refused_bad, accepts, accepted_from, asked_none, asked_some, late, with_some.
use mathlib.Core.Path.{◌≡◌, refl, sym, subst}
use mathlib.Core.Bool.{Bool, true, false}
use mathlib.Core.Logic.{◌≢◌}
use Prim.Native.Nat.{ℕ}
use native.Mathlib.Omega.{arith}
use Rattle.std.specs.Prelude.{None, Some, Ok, Err, is_ok, ok_or, MatchOption}
use Rattle.answer.specs.declared.Refusal.{Refusal}
use Rattle.std.specs.Bool.{then_some}
use Rattle.xor.specs.Tells.{Tells}
use Rattle.xor.proofs.TellsLaws.{tells_true, tells_false, told_no}
use Rattle.shape.specs.declared.Shape.{Shape}
use Rattle.shape.specs.Good.{Good}
use Rattle.answer.specs.Answers.{Answer, number, First}
use Rattle.shape.specs.Refusals.{shape_table}
use Rattle.answer.proofs.AnswersLaws.{first_one, refused}
use Rattle.shape.proofs.GoodLaws.{shape_done}
use Rattle.shape.proofs.Asked.{done_good}
use Rattle.kinds.specs.Kinds.{Held, Kind, shaping, writing, storing, checking, locating, rebuilding, Shapeless, Early, With}
use Rattle.kinds.specs.Holding.{Accepted}

-- a shape that is refused is not good
pub refused_bad : (sh : Shape) (k : ℕ) → First (shape_table sh) k → k ≢ 0 → ¬ Good sh
refused_bad sh k h ne good = ne (first_one (shape_table sh) k 0 h ((shape_done sh).0 good))

-- the shape that a kind goes by, and the refusal where there is none
pub asked_none : (h r : Held) (none e : Refusal) → Accepted h r → Err e ≡ ok_or r none → (e ≡ none) × Shapeless h
asked_none h None none e a z = ((grind arith), a)
asked_none h (Some sh) none e a z = absurd (grind arith)

pub asked_some : (h r : Held) (none : Refusal) (sh : Shape) → Accepted h r → Ok sh ≡ ok_or r none → (h ≡ Some sh) × Good sh
asked_some h None none sh a z = absurd (grind arith)
asked_some h (Some x) none sh a z = let e : x ≡ sh = grind arith in subst (λ (x : Shape). (h ≡ Some x) × Good x) e a

-- with a good shape held no kind comes too early
pub late : (k : Kind) (h : Held) (sh : Shape) → h ≡ Some sh → Good sh → ¬ Early k h
late k h sh e good z = at k (subst (Early k) e z)
  where
    at : (k : Kind) → Early k (Some sh) → ⊥
    at shaping z = z
    at writing z = z good
    at storing z = z good
    at checking z = z good
    at locating z = z good
    at rebuilding z = z good

-- what is so of the shape held
pub with_some : (P : Shape → Type 0) (h : Held) (sh : Shape) → h ≡ Some sh → P sh → With h P
with_some P h sh e z = subst (λ (k : Held). With k P) (sym e) z

-- a shape is good exactly where `accept` answers Ok
pub accepts : (sh : Shape) (a : Answer) → First (shape_table sh) (number a) → Tells (Good sh) (is_ok a)
unfolding number
accepts sh (Ok x) h = tells_true (done_good sh (Ok x) h refl)
accepts sh (Err r) h = tells_false (refused_bad sh _ h (refused {A = Unit {0}} {x = Err r} {r = r} refl))

-- the shape held, filtered by that
pub accepted_from : (R : Shape → Bool → Type 0) → ((sh : Shape) (b : Bool) → R sh b → Tells (Good sh) b)
    → (h r : Held) → MatchOption h (r ≡ None) (λ sh. (b : Bool) × R sh b × (r ≡ then_some b sh)) → Accepted h r
accepted_from R tells None r e = rw e tt
accepted_from R tells (Some sh) r (true, k, e) = rw e (refl, (tells sh true k).yes refl)
accepted_from R tells (Some sh) r (false, k, e) = rw e (told_no (tells sh false k) refl)
