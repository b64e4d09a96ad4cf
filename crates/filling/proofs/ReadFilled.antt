-- What is read of the losses can be filled, and a column so filled is what fill is to leave.
use mathlib.Core.Path.{◌≡◌, refl, sym, ap, ◌∙◌, subst}
use mathlib.Core.Logic.{◌↔◌, ◌≢◌, ◌⊎◌, inl, inr, ⊎_elim}
use mathlib.Core.List.{List}
use Prim.Native.Nat.{ℕ, zero, suc, ◌-◌, ◌*◌, ◌≤◌}
use native.Mathlib.Omega.{arith}
use lib.ListN.{length}
use Rattle.shape.specs.declared.Shape.{Shape}
use Rattle.shape.specs.Place.{byte}
use Rattle.shape.proofs.GoodLaws.{good_wide}
use Rattle.rule.specs.declared.Losses.{Losses}
use Rattle.rule.specs.Losses.{Lost}
use Rattle.rule.proofs.Reading.{reading_lost}
use Rattle.rule.proofs.OuterLaws.{outer_some}
use Rattle.solving.specs.declared.Gone.{Gone}
use Rattle.solving.specs.Outer.{column_of, base_of, Solved}
use Rattle.solving.proofs.SolvedLaws.{outer_is_solved}
use Rattle.staging.specs.Reading.{Read}
use Rattle.staging.proofs.ReadingLaws.{read_near, read_short, read_two}
use Rattle.filling.specs.Fill.{Filled, Fills}
use Rattle.filling.specs.Filling.{narrowed, Fillable, ColumnIn}
use Rattle.filling.proofs.FillLaws.{FillGood}

-- a side's column at the start, and the other's behind it
narrowed_bases : (x : Gone) (side : ℕ) → side ≤ 1 → (base_of (narrowed x side) side ≡ 0) × (base_of (narrowed x side) (1 - side) ≡ x.walk * x.shape.w)
unfolding base_of
narrowed_bases x zero h = (omega arith, omega arith)
narrowed_bases x (suc zero) h = (omega arith, omega arith)
narrowed_bases x (suc (suc i)) h = absurd (omega arith)

narrowed_column : (x : Gone) (side i : ℕ) → column_of (narrowed x side) i ≡ column_of x i
unfolding column_of
narrowed_column x side zero = refl
narrowed_column x side (suc i) = refl

-- a good call is one of the shape that is read, and back
module _ (sh : Shape) (lost : Losses) (x : Gone) (rd : Read sh lost x) (s : List ℕ) (wanted : ℕ) where
  pub read_good : (room : ℕ) → FillGood sh s lost wanted room → FillGood x.shape s lost wanted room
  read_good room = subst (λ (z : Shape). FillGood z s lost wanted room) (sym rd.shape_is)

  pub read_fills : (buffer buffer' : List ℕ) → Fills x.shape s lost wanted buffer buffer' → Fills sh s lost wanted buffer buffer'
  read_fills buffer buffer' = subst (λ (z : Shape). Fills z s lost wanted buffer buffer') rd.shape_is

pub read_small : (x : Gone) (lost : Losses) → Read x.shape lost x → (s : List ℕ) (wanted room : ℕ) → FillGood x.shape s lost wanted room
    → (x.walk ≤ 64) × (x.shape.w ≤ 4096)
read_small x lost rd s wanted room o = (read_short x lost rd o.shape o.columns o.apart, o.shape.w_fits.1)

module _ (x : Gone) (lost : Losses) (rd : Read x.shape lost x) (s buffer : List ℕ) (wanted : ℕ) (o : FillGood x.shape s lost wanted (length buffer)) where
  -- wanted is lost where it is first or second
  lost_read : Lost lost wanted ↔ ((wanted ≡ x.first) ⊎ (wanted ≡ x.second))
  lost_read =
      rw (rd.first_is, rd.second_is)
      (reading_lost x.shape.m x.shape.n (good_wide x.shape o.shape) lost o.columns o.apart wanted o.within)

  column_lost : (side : ℕ) → wanted ≡ column_of x side → Lost lost wanted
  unfolding column_of
  column_lost zero e = lost_read.1 (inl e)
  column_lost (suc side) e = lost_read.1 (inr e)

  module _ (side : ℕ) (hs : side ≤ 1) (h : wanted ≡ column_of x side) (g : Gone) (e : g ≡ narrowed x side) where
    pub read_fillable : Fillable g side s buffer
    read_fillable = subst (λ (z : Gone). Fillable z side s buffer) (sym e) record {
      good = o.shape;
      whole = o.stripe;
      side_is = hs;
      column = omega (arith, narrowed_column x side side, o.within);
      two = λ l. omega (arith, narrowed_column x side (1 - side), read_two x lost rd o.shape o.columns o.apart l (1 - side));
      near = read_near x lost rd o.shape o.columns o.apart;
      short = read_short x lost rd o.shape o.columns o.apart;
      own = (narrowed_bases x side hs).0;
      other = (narrowed_bases x side hs).1;
      room = o.buffer;
    }

    pub read_filled : (buffer' : List ℕ) → length buffer' ≡ length buffer → ((v : ℕ → ℕ → ℕ → ℕ) → Solved g s v → ColumnIn g v side buffer buffer')
        → Fills x.shape s lost wanted buffer buffer'
    unfolding byte
    read_filled buffer' long f = record { gone = λ l. filled; survives = λ n. absurd (n (column_lost side h)) }
      where
        filled : Filled x.shape s lost wanted buffer buffer'
        filled =
            let (y, out) = outer_some x.shape o.shape lost o.columns o.apart s o.stripe in
            let solved = outer_is_solved (narrowed x side) o.shape lost o.columns o.apart rd.first_is rd.second_is rd.walk_is s y out in
            let c = subst (λ (z : Gone). (v : ℕ → ℕ → ℕ → ℕ) → Solved z s v → ColumnIn z v side buffer buffer') e f _ solved in
            record {
              x = y;
              outer = out;
              long = long;
              front = λ d t hd ht. c.front d hd t ht ∙ ap (byte x.shape y t d) (narrowed_column x side side ∙ sym h);
              rest = λ i lo hi. c.rest i lo;
            }

  -- any other column survives
  pub read_survives : wanted ≢ x.first → wanted ≢ x.second → Fills x.shape s lost wanted buffer buffer
  read_survives p q = record { gone = λ l. absurd (⊎_elim p q (lost_read.0 l)); survives = λ n. refl }
