-- Laws of raw store: one outcome, and some.
use mathlib.Core.Path.{◌≡◌, sym, ◌∙◌}
use mathlib.Core.List.{List}
use Prim.Native.Nat.{ℕ}
use native.Mathlib.Omega.{arith}
use Rattle.shape.specs.declared.Shape.{Shape}
use Rattle.answer.specs.Answers.{Answer}
use Rattle.shape.specs.Place.{height}
use Rattle.answer.specs.Answers.{Rises}
use Rattle.shape.specs.Refusals.{shape_table, stripe_table}
use Rattle.shape.proofs.PlaceLaws.{byte_ext}
use Rattle.shape.proofs.Made.{made, length_made, byte_made}
use Rattle.answer.proofs.AnswersLaws.{first_clear}
use Rattle.shape.proofs.GoodLaws.{good_m, good_w, stripe_clear}
use Rattle.answer.proofs.OutcomeLaws.{call_one, call_some}
use Rattle.shape.proofs.Ready.{stripe_ready_rest}
use Rattle.rule.specs.Rule.{Grid}
use Rattle.storing.specs.Store.{store_table, Stored, RawStore}
use Rattle.storing.proofs.Struck.{struck, struck_here, struck_there, struck_same, struck_ready, struck_lt}

module _ (sh : Shape) (s : List ℕ) (c r : ℕ) (z : List ℕ) where
  pub store_rises : Rises 0 (store_table sh s c r z)
  unfolding shape_table stripe_table store_table
  store_rises = omega arith

  pub store_one : (a b : Answer) (x y : List ℕ) → RawStore sh s c r z a x → RawStore sh s c r z b y → (a ≡ b) × (x ≡ y)
  unfolding store_table
  store_one = call_one (λ h x y u v. let (good, len, more) = stripe_clear sh s _ h in
      byte_ext sh (good_m sh good) (good_w sh good) x y (u.long ∙ len) (v.long ∙ len) (λ d j t hd hj ht.
      struck_same sh x y (height sh r) c d j t (u.new t ht ∙ sym (v.new t ht)) (λ ne. u.rest d j t hd hj ht ne ∙ sym (v.rest d j t hd hj ht ne))))

  pub store_some : (a : Answer) × (x : List ℕ) × RawStore sh s c r z a x
  unfolding store_table height
  store_some = call_some s (Stored sh s c r z) (stripe_ready_rest sh s _ (λ g e. struck_ready sh.n sh.m sh.w c r z)) (λ h.
      let (good, len, more) = stripe_clear sh s _ h in
      let (hc, hr) = struck_lt sh.n sh.m sh.w c r z (first_clear 5 more).0 in (
        made sh F,
        record {
          long = length_made sh F ∙ sym len;
          new = λ t ht. byte_made sh F (height sh r) c t (omega (arith, good_m sh good)) hc ht ∙ struck_here sh s c (height sh r) z t;
          rest = λ d j t hd hj ht ne. byte_made sh F d j t hd hj ht ∙ struck_there sh s c (height sh r) z t d j ne;
        },
      ))
    where
      F : ℕ → Grid
      F = struck sh s c (height sh r) z
