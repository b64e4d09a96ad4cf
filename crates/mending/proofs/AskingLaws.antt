-- Kinds 4 and 5: what a call says of the front of the buffer it says of the stripe.
-- To cite: told_check, told_locate.
use mathlib.Core.Path.{◌≡◌, refl, ap, ◌∙◌, subst}
use mathlib.Core.List.{List}
use Prim.Native.Nat.{ℕ}
use lib.ListN.{length, take}
use Rattle.shape.specs.declared.Shape.{Shape}
use Rattle.shape.specs.Good.{Good}
use Rattle.answer.specs.Answers.{number}
use Rattle.checking.specs.declared.Checked.{Checked}
use Rattle.checking.specs.Check.{Check, counts}
use Rattle.locating.specs.declared.Damage.{Damage}
use Rattle.locating.specs.Locate.{Locate, finding}
use Rattle.std.specs.Prelude.{Some, Result}
use Rattle.answer.specs.declared.Refusal.{Refusal}
use Rattle.kinds.specs.declared.Deed.{Deed}
use Rattle.kinds.specs.Kinds.{Held, checking, locating, kind_number, deed, stripe, With, TellsOf}
use Rattle.kinds.specs.Holding.{Front}
use Rattle.kinds.proofs.DoesLaws.{Looks}
use Rattle.kinds.proofs.FrontLaws.{front_take}
use Rattle.kinds.proofs.HoldingLaws.{late, with_some}
use Rattle.kinds.proofs.ToldLaws.{told_0}

module _ (h : Held) (sh : Shape) (held : (h ≡ Some sh) × Good sh) (p : List ℕ) (right : length p ≡ 0)
    (s : List ℕ) (end : ℕ) (f : Front sh (length s) end) (d : Deed) (room : ℕ) (work : List ℕ) where
  -- a call that only looks, with the line of what it reports
  looks_front : {A : Type 0} (Call : Shape → List ℕ → A → Type 0) (line : Held → A → Deed) (r : A) → Call sh (take end s) r → d ≡ line h r
      → With h (λ sh. Looks sh s (Call sh (stripe sh s)) (line (Some sh)) d s)
  looks_front Call line r call is =
      with_some (λ sh. Looks sh s (Call sh (stripe sh s)) (line (Some sh)) d s) h sh held.0
      (r, subst (λ (l : List ℕ). Call sh l r) (front_take sh s end f) call, refl, is ∙ ap (λ (k : Held). line k r) held.0)

  pub told_check : (r : Result Checked Refusal) → Check sh (take end s) r → d ≡ deed h (number r) (counts r).0 (counts r).1 → TellsOf 4 h p s room d s work
  unfolding kind_number
  told_check r call is =
      told_0 h p s room work d checking (late checking h sh held.0 held.1) s (λ w. w right)
      (looks_front Check (λ k q. deed k (number q) (counts q).0 (counts q).1) r call is)

  pub told_locate : (r : Result Damage Refusal) → Locate sh (take end s) r → d ≡ deed h (number r) (finding r).0 (finding r).1 → TellsOf 5 h p s room d s work
  unfolding kind_number
  told_locate r call is =
      told_0 h p s room work d locating (late locating h sh held.0 held.1) s (λ w. w right)
      (looks_front Locate (λ k q. deed k (number q) (finding q).0 (finding q).1) r call is)
