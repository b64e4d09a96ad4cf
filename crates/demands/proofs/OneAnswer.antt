-- One answer for each call: the law of its floor. And one list of lines for an input of the job program.
use mathlib.Core.Path.{refl, sym, ap, ap₂, ◌∙◌, subst}
use mathlib.Core.List.{List, [], ◌∷◌}
use Prim.Native.Nat.{ℕ}
use native.Mathlib.Omega.{arith}
use lib.ListN.{drop}
use Rattle.stock.proofs.PricesLaws.{prices_one}
use Rattle.stock.proofs.StockLaws.{stock_one}
use Rattle.encoding.proofs.EncodeLaws.{encode_one}
use Rattle.checking.proofs.CheckLaws.{check_one}
use Rattle.locating.proofs.LocateLaws.{locate_one}
use Rattle.writing.proofs.WriteLaws.{write_one}
use Rattle.storing.proofs.StoreLaws.{store_one}
use Rattle.handing.proofs.ColumnLaws.{column_one}
use Rattle.rebuild.proofs.RebuildLaws.{rebuild_one}
use Rattle.filling.proofs.FillLaws.{fill_one}
use Rattle.filling.proofs.ChooseLaws.{choose_one}
use Rattle.job.specs.declared.Turn.{Turn}
use Rattle.job.proofs.StepLaws.{step_one}
use Rattle.demands.specs.OneAnswer.{OneEncode, OneCheck, OneLocate, OneSmallWrite, OneRawStore, OneRebuild, OneColumn, OneFill, OneChoose, OnePrices, OneStock, OneStep}
use Rattle.demands.specs.Cases.{printed, Prints, OnePrintout}

pub one_encode : OneEncode
one_encode = encode_one

pub one_check : OneCheck
one_check = check_one

pub one_locate : OneLocate
one_locate = locate_one

pub one_small_write : OneSmallWrite
one_small_write = write_one

pub one_raw_store : OneRawStore
one_raw_store = store_one

pub one_rebuild : OneRebuild
one_rebuild = rebuild_one

pub one_column : OneColumn
one_column = column_one

pub one_fill : OneFill
one_fill = fill_one

pub one_choose : OneChoose
one_choose = choose_one

pub one_prices : OnePrices
one_prices = prices_one

pub one_stock : OneStock
one_stock = stock_one

pub one_step : OneStep
one_step = step_one

-- ---- the lines of an input are one list

pub one_printout : OnePrintout
one_printout st input s room [] [] p q = refl
one_printout st input s room [] (m ∷ ms) p q = absurd (omega (arith, q.0))
one_printout st input s room (l ∷ ls) [] p q = absurd (omega (arith, p.0))
one_printout st input s room (l ∷ ls) (m ∷ ms) (a, r, x, u, h, e, more) (b, r₂, y, v, g, f, more₂) =
    let (same, kept, clear) = one_step st input s room r r₂ x y u v h g in
    let more' : Prints r.state (drop r.taken input) x room ms =
    subst (λ (k : Turn). Prints k.state (drop k.taken input) x room ms) (sym same)
    (subst (λ (z : List ℕ). Prints r₂.state (drop r₂.taken input) z room ms) (sym kept) more₂) in
    ap₂ ◌∷◌ (sym e ∙ ap printed same ∙ f) (one_printout r.state (drop r.taken input) x room ls ms more more')
