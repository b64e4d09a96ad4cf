-- A column read, fill then choose: where rebuild accepts, it is the column that rebuild would leave.
use mathlib.Core.Path.{◌≡◌, refl, sym, ap, ◌∙◌}
use mathlib.Core.List.{List}
use Prim.Native.Nat.{ℕ, ◌<◌}
use native.Mathlib.Omega.{arith}
use lib.ListN.{length, get_or, take, length-take}
use lib.Seq.{ext_get_or, get_or-take}
use Rattle.shape.specs.declared.Shape.{Shape}
use Rattle.std.specs.Prelude.{Ok}
use Rattle.shape.specs.Good.{size}
use Rattle.shape.specs.Place.{column_length, byte, column}
use Rattle.answer.specs.Answers.{number}
use Rattle.shape.proofs.PlaceLaws.{height_at, offset_at, height_at_lt, offset_at_lt, place_in}
use Rattle.shape.proofs.ColumnLaws.{length_column, get_or_column}
use Rattle.answer.proofs.AnswersLaws.{first_one}
use Rattle.shape.proofs.GoodLaws.{good_m, good_w}
use Rattle.rule.specs.declared.Losses.{Losses}
use Rattle.rule.specs.Losses.{Lost}
use Rattle.rule.specs.Outer.{Outer}
use Rattle.rule.proofs.Reading.{lost?}
use Rattle.rule.proofs.OuterLaws.{outer_one}
use Rattle.rule.proofs.SolvesLaws.{solves_outer}
use Rattle.rebuild.specs.Rebuild.{Rebuild}
use Rattle.rebuild.proofs.RebuildLaws.{rebuild_done}
use Rattle.filling.specs.Fill.{fill_table, Fill}
use Rattle.filling.specs.Choose.{Choose}
use Rattle.filling.proofs.FillLaws.{FillGood, fill_done}

-- the stripe solved in the outer-chain order is rebuild's where rebuild accepts
pub rebuild_outer : (sh : Shape) (lost : Losses) (s : List ℕ) (room : ℕ) (x u y : List ℕ) → Rebuild sh lost s room (Ok tt) x u → Outer sh lost s y → y ≡ x
unfolding number
rebuild_outer sh lost s room x u y p o =
    let g = rebuild_done sh lost s room p.outcome.answer in
    outer_one sh g.shape lost g.columns g.apart s y x g.stripe o (solves_outer sh g.shape lost g.columns g.apart s x (p.outcome.done refl))

pub column_read : (sh : Shape) (s : List ℕ) (lost : Losses) (room : ℕ) (x u : List ℕ) (c : ℕ) (buffer buffer' part : List ℕ)
    → Rebuild sh lost s room (Ok tt) x u → Fill sh s lost c buffer (Ok tt) buffer' → Choose sh s lost c buffer' part → part ≡ column sh x c
unfolding number
column_read sh s lost room x u c buffer buffer' part p q (k, r) = at (lost? lost c)
  where
    good : FillGood sh s lost c (length buffer)
    good = fill_done sh s lost c (length buffer) q.answer

    hm : 0 < sh.m
    hm = good_m sh good.shape

    hw : 0 < sh.w
    hw = good_w sh good.shape

    long : length x ≡ size sh
    long = (p.outcome.done refl).long ∙ good.stripe

    -- the buffer is as long as it was, so choose is not refused
    grown : Dec (Lost lost c) → length buffer' ≡ length buffer
    grown (yes l) = ((q.done refl).gone l).long
    grown (no l) = ap length ((q.done refl).survives l)

    same : k ≡ 0
    same = first_one (fill_table sh s lost c (length buffer)) k 0 (rw (grown (lost? lost c)) at r.answer) q.answer

    -- by bytes
    by_bytes : (y : List ℕ) → length y ≡ column_length sh
        → ((i : ℕ) → i < column_length sh → get_or y i 0 ≡ byte sh x (offset_at sh i) (height_at sh i) c) → y ≡ column sh x c
    by_bytes y ly h = ext_get_or 0 y (column sh x c) (ly ∙ sym (length_column sh hm hw x long c good.within)) (λ i hi.
        let lt : i < column_length sh = omega (arith, ly) in h i lt ∙ sym (get_or_column sh hm hw x c i lt))

    at : Dec (Lost lost c) → part ≡ column sh x c
    at (no l) =
        (r.done same).survives l
        ∙ by_bytes (column sh s c) (length_column sh hm hw s good.stripe c good.within) (λ i hi.
        get_or_column sh hm hw s c i hi
        ∙ sym ((p.outcome.done refl).agrees.same (height_at sh i) c (offset_at sh i) (height_at_lt sh hm hw i) good.within (offset_at_lt sh hm hw i) l))
    at (yes l) =
        let f = (q.done refl).gone l in
        (r.done same).gone l
        ∙ by_bytes (take (column_length sh) buffer') (omega (arith, length-take (column_length sh) buffer', f.long, good.buffer)) (λ i hi.
        get_or-take (column_length sh) buffer' i 0 hi
        ∙ ap (λ (j : ℕ). get_or buffer' j 0) (sym (omega (arith, place_in sh hm hw 0 i hi)))
        ∙ f.front (height_at sh i) (offset_at sh i) (height_at_lt sh hm hw i) (offset_at_lt sh hm hw i)
        ∙ ap (λ (z : List ℕ). byte sh z (offset_at sh i) (height_at sh i) c) (rebuild_outer sh lost s room x u f.x p f.outer))
