-- Laws of encode: one outcome, and some.
use mathlib.Core.Path.{◌≡◌, refl, sym, ◌∙◌}
use mathlib.Core.List.{List}
use Prim.Native.Nat.{ℕ, zero, suc, ◌≤◌}
use native.Mathlib.Omega.{arith}
use lib.ListN.{length}
use Rattle.shape.specs.declared.Shape.{Shape}
use Rattle.answer.specs.Answers.{Answer}
use Rattle.shape.specs.Good.{Good, size}
use Rattle.shape.specs.Place.{byte}
use Rattle.shape.proofs.Made.{made, length_made, byte_made}
use Rattle.shape.proofs.GoodLaws.{good_m, good_room, stripe_done}
use Rattle.answer.proofs.OutcomeLaws.{call_one, call_some}
use Rattle.shape.proofs.Ready.{stripe_ready}
use Rattle.rule.specs.Rule.{Grid, others}
use Rattle.rule.proofs.ChainLaws.{others_cong}
use Rattle.encoding.specs.Encode.{Encoded, Encode}
use Rattle.rule.proofs.Information.{by_information}

pub encode_one : (sh : Shape) (s : List ℕ) (a b : Answer) (x y : List ℕ) → Encode sh s a x → Encode sh s b y → (a ≡ b) × (x ≡ y)
encode_one sh s a b x y = call_one (λ h x y u v.
    let (good, len) = (stripe_done sh s).1 h in
    by_information sh good x y (u.long ∙ len) (v.long ∙ len) (λ d c t lo hi hc ht. u.information d c t lo hi hc ht ∙ sym (v.information d c t lo hi hc ht))
    (λ c t hc ht k. u.obeys.rule c t hc ht ∙ k ∙ sym (v.obeys.rule c t hc ht))) a b x y

pub encode_some : (sh : Shape) (s : List ℕ) → (a : Answer) × (x : List ℕ) × Encode sh s a x
encode_some sh s = call_some s (Encoded sh s) (stripe_ready sh s) (λ h. let (good, len) = (stripe_done sh s).1 h in (made sh F, made_so good len))
  where
    F : ℕ → Grid
    F t zero c = others sh.m sh.n (byte sh s t) c
    F t (suc d) c = byte sh s t (suc d) c

    info : (d c t : ℕ) → 1 ≤ d → F t d c ≡ byte sh s t d c
    info zero c t lo = absurd (omega arith)
    info (suc d) c t lo = refl

    made_so : Good sh → length s ≡ size sh → Encoded sh s (made sh F)
    made_so good len = record {
      long = length_made sh F ∙ sym len;
      information = λ d c t lo hd hc ht. byte_made sh F d c t hd hc ht ∙ info d c t lo;
      obeys = record {
        rule = λ p t hp ht.
            byte_made sh F 0 p t (good_m sh good) hp ht
            ∙ others_cong sh.m sh.n (omega (arith, good_room sh good, good_m sh good)) p hp (byte sh s t) (byte sh (made sh F) t)
            (λ d c lo hd hc. sym (byte_made sh F d c t hd hc ht ∙ info d c t lo));
      };
    }
