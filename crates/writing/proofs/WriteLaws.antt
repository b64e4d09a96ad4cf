-- Laws of small write: one outcome, and some.
use mathlib.Core.Path.{◌≡◌, refl, sym, ap₂, ◌∙◌}
use mathlib.Core.List.{List}
use Prim.Native.Nat.{ℕ, zero, suc, ◌-◌, ◌≤◌}
use native.Mathlib.Omega.{arith}
use Rattle.xor.specs.Xor.{◌⊕◌}
use Rattle.xor.proofs.XorLaws.{⊕_laws, ⊕_off}
use Rattle.shape.specs.declared.Shape.{Shape}
use Rattle.answer.specs.Answers.{Answer}
use Rattle.shape.specs.Place.{height, byte}
use Rattle.answer.specs.Answers.{Rises}
use Rattle.shape.specs.Refusals.{shape_table, stripe_table}
use Rattle.shape.proofs.Made.{made, length_made, byte_made}
use Rattle.answer.proofs.AnswersLaws.{first_clear}
use Rattle.shape.proofs.GoodLaws.{good_m, good_room, stripe_clear}
use Rattle.answer.proofs.OutcomeLaws.{call_one, call_some}
use Rattle.shape.proofs.Ready.{stripe_ready_rest}
use Rattle.rule.specs.Rule.{Grid, others, chain, differs}
use Rattle.rule.proofs.ChainLaws.{others_cong}
use Rattle.writing.specs.Write.{write_table, Written, SmallWrite}
use Rattle.rule.proofs.Information.{by_information}
use Rattle.storing.proofs.Struck.{struck, struck_here, struck_there, struck_same, struck_ready, struck_lt}

module _ (sh : Shape) (s : List ℕ) (c r : ℕ) (z : List ℕ) where
  pub write_rises : Rises 0 (write_table sh s c r z)
  unfolding shape_table stripe_table write_table
  write_rises = omega arith

  pub write_one : (a b : Answer) (x y : List ℕ) → SmallWrite sh s c r z a x → SmallWrite sh s c r z b y → (a ≡ b) × (x ≡ y)
  unfolding write_table differs chain
  write_one = call_one (λ h x y u v. let (good, len, more) = stripe_clear sh s _ h in
      by_information sh good x y (u.long ∙ len) (v.long ∙ len) (λ d j t lo hd hj ht.
      struck_same sh x y (height sh r) c d j t (u.new t ht ∙ sym (v.new t ht)) (λ ne. u.information d j t lo hd hj ht ne ∙ sym (v.information d j t lo hd hj ht ne)))
      (λ p t hp ht k. ⊕_off _ _ _ (u.chains p t hp ht ∙ sym (rw k (v.chains p t hp ht)))))

  pub write_some : (a : Answer) × (x : List ℕ) × SmallWrite sh s c r z a x
  unfolding write_table height differs chain
  write_some = call_some s (Written sh s c r z) (stripe_ready_rest sh s _ (λ g e. struck_ready sh.n (sh.m - 1) sh.w c r z)) (λ h.
      let (good, len, more) = stripe_clear sh s _ h in
      let (hc, hr) = struck_lt sh.n (sh.m - 1) sh.w c r z (first_clear 5 more).0 in (
        made sh F,
        record {
          long = length_made sh F ∙ sym len;
          new = λ t ht.
              byte_made sh F (height sh r) c t (omega (arith, good_m sh good)) hc ht ∙ info (height sh r) c t (omega arith) ∙ struck_here sh s c (height sh r) z t;
          information = λ d j t lo hd hj ht ne. byte_made sh F d j t hd hj ht ∙ info d j t lo ∙ struck_there sh s c (height sh r) z t d j ne;
          chains = λ p t hp ht.
              ap₂ ◌⊕◌ (byte_made sh F 0 p t (good_m sh good) hp ht)
              (others_cong sh.m sh.n (omega (arith, good_room sh good, good_m sh good)) p hp (byte sh (made sh F) t) (G t)
              (λ d j lo hd hj. byte_made sh F d j t hd hj ht ∙ info d j t lo))
              ∙ twice (differs sh s p t) (others sh.m sh.n (G t) p);
        },
      ))
    where
      -- the information as left, and with it the parity by which each chain differs as it did
      G : ℕ → Grid
      G = struck sh s c (height sh r) z

      F : ℕ → Grid
      F t zero p = differs sh s p t ⊕ others sh.m sh.n (G t) p
      F t (suc d) j = G t (suc d) j

      info : (d j t : ℕ) → 1 ≤ d → F t d j ≡ G t d j
      info zero j t lo = absurd (omega arith)
      info (suc d) j t lo = refl

      twice : (f g : ℕ) → f ⊕ g ⊕ g ≡ f
      twice f g = simp ⊕_laws
