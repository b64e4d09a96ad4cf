-- The reading of the words: the laws of the floors, and what follows from the definitions by computing.
use mathlib.Core.Path.{◌≡◌, ap}
use mathlib.Core.Logic.{⊎_elim}
use Prim.Native.Nat.{ℕ, ◌+◌, ◌-◌, ◌*◌}
use native.Mathlib.Omega.{arith}
use mathlib.Core.Bool.{true, false}
use lib.ListN.{get_or}
use Rattle.shape.specs.Place.{height, row, slot, column_length, place, byte}
use Rattle.answer.proofs.AnswersLaws.{first_lowest}
use Rattle.shape.proofs.GoodLaws.{good_m, good_room, good_wide, shape_done, shape_rises, stripe_rises}
use Rattle.stock.proofs.StockLaws
use Rattle.rule.specs.declared.Losses.TheVariants.{Two}
use Rattle.rule.proofs.RuleLaws.{chain_apart, mark_in, mark_out}
use Rattle.rule.specs.Losses.{Beyond}
use Rattle.rule.proofs.OrderLaws
use Rattle.rule.proofs.Reading.{two_order}
use Rattle.rule.proofs.OuterLaws.{outer_one, outer_some, outer_from, outer_from_one}
use Rattle.checking.proofs.CheckLaws
use Rattle.locating.proofs.Explains
use Rattle.writing.proofs.Parities
use Rattle.writing.proofs.WriteLaws.{write_rises}
use Rattle.storing.proofs.StoreLaws.{store_rises}
use Rattle.handing.proofs.ColumnLaws.{column_rises}
use Rattle.rebuild.proofs.RebuildLaws.{rebuild_rises}
use Rattle.filling.proofs.FillLaws.{fill_rises, fill_either}
use Rattle.filling.proofs.ChooseLaws
use Rattle.job.proofs.StepLaws.{step_12, step_11, step_14, step_13, step_shown, step_hidden}
use Rattle.demands.proofs.ColumnRead
use Rattle.demands.specs.Reading.{Layout, TwoChains, DifferentColumns, TablesRise, FirstIsLowest, GoodIsDone, NoneBroken, ExplainsIsMends, TwoParities, StockGood, WalkEnds, SolvedFrom, OneOuter, SomeOuter, FillIsRebuild, FillEitherOrder, FillThenChoose, ChooseEmpty, ProgramOrder, LineForEach}

-- ---- layout and chains

pub layout : Layout
unfolding byte place slot row height
layout sh s i j t hi =
    let e : sh.m - 1 - (sh.m - 1 - i) ≡ i = omega arith in
    ap (λ (z : ℕ). get_or s (j * column_length sh + z * sh.w + t) 0) e

pub two_chains : TwoChains
two_chains sh good d c p lo hd hc hp =
    (mark_in sh.m sh.n (good_room sh good) d c p lo hd hc hp, mark_out sh.m sh.n (good_room sh good) d c p lo hd hc hp)

pub different_columns : DifferentColumns
different_columns sh good = chain_apart sh.m sh.n (good_room sh good)

-- ---- the refusal order

pub tables_rise : TablesRise
tables_rise sh s x lost c r room i = (
  shape_rises sh,
  stripe_rises sh s,
  write_rises sh s c r x,
  store_rises sh s c r x,
  rebuild_rises sh lost s room,
  column_rises sh s c,
  fill_rises sh s lost c room,
  StockLaws.stock_rises i,
)

pub first_is_lowest : FirstIsLowest
first_is_lowest T h k f = first_lowest T 0 h k f

pub good_is_done : GoodIsDone
good_is_done = shape_done

-- ---- the calls on a stripe

pub none_broken : NoneBroken
none_broken = CheckLaws.none_broken

pub explains_is_mends : ExplainsIsMends
explains_is_mends sh good s len small c hc = Explains.explains_is_mends sh (good_m sh good) (good_room sh good) s len c hc small

pub two_parities : TwoParities
two_parities = Parities.two_parities

pub stock_good : StockGood
stock_good = StockLaws.stock_good

-- ---- the outer-chain order

pub walk_ends : WalkEnds
walk_ends n a b ha hb = (OrderLaws.walk_ends n a b ha hb, OrderLaws.walk_lt n a b ha hb)

pub solved_from : SolvedFrom
solved_from sh good s x d t hd ht = (
  (λ c hc o. outer_from_one sh good s x c d t hc hd ht o),
  (λ a b f g k ha hb ne ef eg ek o.
      let fit : ¬ Beyond sh.n (Two a b) = λ z. ⊎_elim (λ u. omega arith) (λ u. omega arith) z in
      let p = two_order sh.m sh.n a b (good_wide sh good) fit ne in
      rw (ek, ef, eg)
      (outer_from sh good (Two a b) fit ne s x o d t hd ht false p.first_lt, outer_from sh good (Two a b) fit ne s x o d t hd ht true p.second_lt)),
)

pub one_outer : OneOuter
one_outer sh good lost fit apart s x y len p q = outer_one sh good lost fit apart s x y len p q

pub some_outer : SomeOuter
some_outer = outer_some

-- ---- column read

pub fill_is_rebuild : FillIsRebuild
fill_is_rebuild = ColumnRead.rebuild_outer

pub fill_either_order : FillEitherOrder
fill_either_order = fill_either

pub fill_then_choose : FillThenChoose
fill_then_choose = ColumnRead.column_read

pub choose_empty : ChooseEmpty
choose_empty sh s lost c buffer part buffer' a p q = ChooseLaws.choose_empty sh s lost c buffer part buffer' a p q

-- ---- the job program

pub program_order : ProgramOrder
program_order st input s room r s' w h = (
  step_12 st input s room r s' w h,
  step_11 st input s room r s' w h,
  λ framed k e. (step_14 st input s room r s' w h framed k e, step_13 st input s room r s' w h framed k e),
)

pub line_for_each : LineForEach
line_for_each st input s room r s' w h = (step_shown st input s room r s' w h, step_hidden st input s room r s' w h)
