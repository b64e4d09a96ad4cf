-- Laws of the part that choose hands back: none where a row of fill's table applies, and else the front of the buffer or the column inside the stripe.
use mathlib.Core.Path.{◌≡◌, refl, ap}
use mathlib.Core.Logic.{◌≢◌, inr}
use mathlib.Core.List.{List, []}
use Prim.Native.Nat.{ℕ}
use native.Mathlib.Omega.{arith}
use denote.Ref.{Bor}
use lib.ListN.{length, take}
use Rattle.shape.specs.declared.Shape.{Shape}
use Rattle.shape.specs.Place.{column_length}
use Rattle.answer.specs.Answers.{First}
use Rattle.shape.specs.Own.{PartOf}
use Rattle.answer.proofs.AnswersLaws.{first_one}
use Rattle.shape.proofs.GoodLaws.{stripe_pass}
use Rattle.rule.specs.declared.Losses.{Losses}
use Rattle.rule.specs.Losses.{Lost}
use Rattle.handing.specs.Column.{column_table}
use Rattle.handing.specs.Handed.{Handed}
use Rattle.filling.specs.Fill.{fill_table}
use Rattle.filling.specs.HandedBack.{HandedBack}
use Rattle.filling.proofs.FillLaws.{fill_done}

-- the front of the buffer as the code cuts it out
pub front_part : (sh : Shape) (buffer : List ℕ) (L : ℕ) → L ≡ column_length sh → take L buffer ≡ take (column_length sh) buffer
front_part sh buffer L e = rw e refl

module _ (sh : Shape) (s : Bor (List ℕ)) (lost : Losses) (wanted : ℕ) (buffer r : Bor (List ℕ)) where
  pub back_none : (k : ℕ) → First (fill_table sh s.now lost wanted (length buffer.now)) k → k ≢ 0 → r.now ≡ [] → HandedBack sh s lost wanted buffer r
  back_none k h ne e = record {
    read = (k, record { answer = h; refused = λ z. e; done = λ z. absurd (ne z) });
    survives = λ z. absurd (z (ap length e));
    gone = λ z. absurd (z (ap length e));
  }

  module _ (h : First (fill_table sh s.now lost wanted (length buffer.now)) 0) where
    pub back_gone : Lost lost wanted → r.now ≡ take (column_length sh) buffer.now → PartOf buffer r 0 → HandedBack sh s lost wanted buffer r
    back_gone l e own = record {
      read = (0, record { answer = h; refused = λ z. absurd (z refl); done = λ z. record { survives = λ n. absurd (n l); gone = λ k. e } });
      survives = λ z n. absurd (n l);
      gone = λ z k. own;
    }

    -- what `column` hands out
    pub back_survives : ¬ Lost lost wanted → Handed sh s wanted r → HandedBack sh s lost wanted buffer r
    unfolding column_table
    back_survives n u =
        let o = fill_done sh s.now lost wanted (length buffer.now) h in
        let (k, p) = u.read in
        let e = first_one (column_table sh s.now wanted) k 0 p.answer (stripe_pass sh s.now _ 0 o.shape o.stripe (inr ((λ z. omega (arith, o.within)), refl))) in record {
          read = (0, record { answer = h; refused = λ z. absurd (z refl); done = λ z. record { survives = λ k. p.done e; gone = λ l. absurd (n l) } });
          survives = λ z k. u.own z;
          gone = λ z l. absurd (n l);
        }
