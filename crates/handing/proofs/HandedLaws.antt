-- Laws of a column handed out: no part where a row of the table applies, and where none does the column inside the stripe.
use mathlib.Core.Path.{◌≡◌, refl, ap}
use mathlib.Core.Logic.{◌≢◌, inl, inr}
use mathlib.Core.List.{List, []}
use Prim.Native.Nat.{ℕ, ◌+◌, ◌-◌, ◌*◌, ◌≤◌, ◌<◌}
use native.Mathlib.Nat.{mul-le-mul_left}
use native.Mathlib.Omega.{arith}
use denote.Ref.{Bor}
use lib.ListN.{length, take, drop}
use Rattle.shape.specs.declared.Shape.{Shape}
use Rattle.shape.specs.Good.{Good, size}
use Rattle.shape.specs.Place.{column_length, column}
use Rattle.answer.specs.Answers.{First}
use Rattle.shape.specs.Refusals.{stripe_table}
use Rattle.shape.specs.Own.{PartOf}
use Rattle.shape.proofs.GoodLaws.{stripe_pass}
use Rattle.handing.specs.Column.{column_table}
use Rattle.handing.specs.Handed.{Handed}
use Rattle.shape.proofs.Asked.{stripe_stop}

-- a column ends inside the stripe
pub column_ends : (sh : Shape) (c : ℕ) → c < sh.n → c * column_length sh + column_length sh ≤ size sh
unfolding size
column_ends sh c hc = let next : c + 1 ≤ sh.n = omega arith in omega (arith, mul-le-mul_left (column_length sh) next)

-- the part as the code cuts it out
pub column_part : (sh : Shape) (s : List ℕ) (c L : ℕ) → L ≡ column_length sh → take (c * L + L - c * L) (drop (c * L) s) ≡ column sh s c
unfolding column
column_part sh s c L e = let k : c * L + L - c * L ≡ L = omega arith in rw (k, e)

module _ (sh : Shape) (s : Bor (List ℕ)) (c : ℕ) (r : Bor (List ℕ)) where
  none : (k : ℕ) → First (column_table sh s.now c) k → k ≢ 0 → r.now ≡ [] → Handed sh s c r
  none k h ne e = record {
    read = (k, record { answer = h; refused = λ z. e; done = λ z. absurd (ne z) });
    own = λ z. absurd (z (ap length e));
  }

  -- the shape or the stripe is refused; the column is
  pub handed_stop : (k : ℕ) → First (stripe_table sh s.now) k → k ≢ 0 → r.now ≡ [] → Handed sh s c r
  unfolding column_table
  handed_stop k h ne e = none k (stripe_stop sh s.now _ k h ne) ne e

  module _ (good : Good sh) (len : length s.now ≡ size sh) where
    pub handed_6 : sh.n ≤ c → r.now ≡ [] → Handed sh s c r
    unfolding column_table
    handed_6 h e = none 6 (stripe_pass sh s.now _ 6 good len (inl (h, refl))) (λ z. omega arith) e

    pub handed_done : c < sh.n → r.now ≡ column sh s.now c → PartOf s r (c * column_length sh) → Handed sh s c r
    unfolding column_table
    handed_done hc e own = record {
      read = (
        0,
        record {
          answer = stripe_pass sh s.now _ 0 good len (inr ((λ z. omega arith), refl));
          refused = λ ne. absurd (ne refl);
          done = λ z. e;
        },
      );
      own = λ z. own;
    }
