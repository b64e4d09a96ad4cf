-- Laws of where a part lies: a part with a byte is a whole column, so that the product that the code makes is its start.
use mathlib.Core.Path.{◌≡◌, refl, ap, ◌∙◌}
use mathlib.Core.Logic.Dec
use mathlib.Core.Logic.{◌≢◌}
use mathlib.Core.List.{List, [], ◌∷◌}
use Prim.Native.Nat.{ℕ, ◌*◌, ◌≤◌, ◌<◌}
use native.Mathlib.Omega.{arith}
use native.Mathlib.Decide.{dec_lt, ℕ_discrete}
use denote.Ref.{Bor}
use lib.ListN.{length, length-take}
use Rattle.shape.specs.declared.Shape.{Shape}
use Rattle.shape.specs.Good.{Good, most}
use Rattle.shape.specs.Place.{column_length}
use Rattle.answer.proofs.AnswersLaws.{first_clear}
use Rattle.shape.proofs.GoodLaws.{good_m, good_w, stripe_clear}
use Rattle.shape.proofs.ColumnLaws.{length_column}
use Rattle.rule.specs.declared.Losses.{Losses}
use Rattle.rule.specs.Losses.{Lost}
use Rattle.rule.proofs.Reading.{lost?}
use Rattle.handing.specs.Column.{column_table, ColumnRead}
use Rattle.handing.specs.Handed.{Handed}
use Rattle.handing.proofs.HandedLaws.{column_ends}
use Rattle.filling.specs.Choose.{Chosen, Choose}
use Rattle.filling.specs.HandedBack.{HandedBack}
use Rattle.filling.proofs.FillLaws.{FillGood, fill_done}
use Rattle.capi.specs.Lies.{Lies, LiesInEither}

-- the part is as long as a column, and column c starts no further on than the longest stripe ends
pub record Whole (sh : Shape) (c : ℕ) (part : List ℕ) : Type 0 where
  pub long : length part ≡ column_length sh
  pub inside : c * column_length sh ≤ most

-- column c of a good shape starts inside the longest stripe
starts : (sh : Shape) (c : ℕ) → Good sh → c < sh.n → c * column_length sh ≤ most
starts sh c good hc = omega (arith, column_ends sh c hc, good.all_fits)

-- so the code's product is a number of the machine
pub fits : (sh : Shape) (c : ℕ) (part : List ℕ) → (length part ≢ 0 → Whole sh c part) → c * length part ≤ most
fits sh c part whole = at (ℕ_discrete (length part) 0)
  where
    at : Dec (length part ≡ 0) → c * length part ≤ most
    at (yes z) = rw z (omega arith)
    at (no z) = rw (whole z).long (whole z).inside

-- ---- column

pub column_whole : (sh : Shape) (s : List ℕ) (c : ℕ) (part : List ℕ) → ColumnRead sh s c part → length part ≢ 0 → Whole sh c part
unfolding column_table
column_whole sh s c part (k, p) ne = at (ℕ_discrete k 0)
  where
    at : Dec (k ≡ 0) → Whole sh c part
    at (no z) = absurd (ne (ap length (p.refused z)))
    at (yes z) =
        let (good, len, more) = stripe_clear sh s _ (rw z at p.answer) in
        let within : c < sh.n = (Dec.not-not (dec_lt c sh.n)).0 (λ n. (first_clear 5 more).0 (omega arith)) in
        record { long = ap length (p.done z) ∙ length_column sh (good_m sh good) (good_w sh good) s len c within; inside = starts sh c good within }

pub column_lies : (sh : Shape) (s : Bor (List ℕ)) (c : ℕ) (r : Bor (List ℕ)) → Handed sh s c r → Lies s r (c * length r.now ∷ length r.now ∷ [])
column_lies sh s c r h = record {
  start = c * length r.now;
  told = refl;
  empty = λ z. rw z (omega arith);
  own = λ ne. rw (column_whole sh s.now c r.now h.read ne).long (h.own ne);
}

-- ---- choose

pub choose_whole : (sh : Shape) (s : List ℕ) (lost : Losses) (wanted : ℕ) (buffer part : List ℕ) → Choose sh s lost wanted buffer part → length part ≢ 0
    → Whole sh wanted part
choose_whole sh s lost wanted buffer part (k, p) ne = at (ℕ_discrete k 0)
  where
    long : FillGood sh s lost wanted (length buffer) → Chosen sh s lost wanted buffer part → Dec (Lost lost wanted) → length part ≡ column_length sh
    long o h (yes l) = ap length (h.gone l) ∙ omega (arith, length-take (column_length sh) buffer, o.buffer)
    long o h (no l) = ap length (h.survives l) ∙ length_column sh (good_m sh o.shape) (good_w sh o.shape) s o.stripe wanted o.within

    at : Dec (k ≡ 0) → Whole sh wanted part
    at (no z) = absurd (ne (ap length (p.refused z)))
    at (yes z) =
        let o = fill_done sh s lost wanted (length buffer) (rw z at p.answer) in
        record { long = long o (p.done z) (lost? lost wanted); inside = starts sh wanted o.shape o.within }

module _ (s : Bor (List ℕ)) (lost : Losses) (wanted : ℕ) (buffer r : Bor (List ℕ)) where
  -- refused
  pub none_lies : length r.now ≡ 0 → LiesInEither s lost wanted buffer r (0 ∷ 0 ∷ 0 ∷ [])
  none_lies z = record {
    which = 0;
    start = 0;
    told = rw z refl;
    empty = λ e. (refl, refl);
    survives = λ ne. absurd (ne z);
    gone = λ ne. absurd (ne z);
  }

  module _ (sh : Shape) (h : HandedBack sh s lost wanted buffer r) (ne : length r.now ≢ 0) where
    -- in the buffer
    pub gone_lies : Lost lost wanted → LiesInEither s lost wanted buffer r (1 ∷ 0 ∷ length r.now ∷ [])
    gone_lies l = record {
      which = 1;
      start = 0;
      told = refl;
      empty = λ z. absurd (ne z);
      survives = λ k n. absurd (n l);
      gone = λ k g. (refl, h.gone ne l);
    }

    -- in the stripe
    pub survives_lies : ¬ Lost lost wanted → LiesInEither s lost wanted buffer r (0 ∷ wanted * length r.now ∷ length r.now ∷ [])
    survives_lies n = record {
      which = 0;
      start = wanted * length r.now;
      told = refl;
      empty = λ z. absurd (ne z);
      survives = λ k g. (refl, rw (choose_whole sh s.now lost wanted buffer.now r.now h.read ne).long (h.survives ne n));
      gone = λ k l. absurd (n l);
    }
