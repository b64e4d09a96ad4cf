-- One answer for each exported call: the law of the call's floor, and that the numbers tell no less and no more.
use mathlib.Core.Path.{◌≡◌, sym, ap, ◌∙◌}
use mathlib.Core.Logic.{◌≢◌}
use mathlib.Core.List.{List, [], ◌∷◌}
use Prim.Native.Nat.{ℕ}
use native.Mathlib.Omega.{arith}
use native.Mathlib.Decide.{ℕ_discrete}
use denote.Ref.{Bor}
use lib.ListN.{length}
use Rattle.std.specs.Prelude.{Result}
use Rattle.answer.specs.declared.Refusal.{Refusal}
use Rattle.answer.specs.Answers.{Answer, number}
use Rattle.shape.specs.declared.Shape.{Shape}
use Rattle.shape.specs.Own.{PartOf}
use Rattle.rule.specs.Losses.{Lost}
use Rattle.rule.proofs.Reading.{lost?}
use Rattle.checking.specs.declared.Checked.{Checked}
use Rattle.checking.specs.Check.{counts}
use Rattle.locating.specs.declared.Damage.{Damage}
use Rattle.locating.specs.Locate.{finding}
use Rattle.stock.specs.declared.Priced.{Priced}
use Rattle.stock.specs.Prices.{figures}
use Rattle.stock.specs.Stock.{shape_given}
use Rattle.encoding.proofs.EncodeLaws.{encode_one}
use Rattle.checking.proofs.CheckLaws.{check_one}
use Rattle.locating.proofs.LocateLaws.{locate_one}
use Rattle.stock.proofs.PricesLaws.{prices_one}
use Rattle.stock.proofs.StockLaws.{stock_one}
use Rattle.writing.proofs.WriteLaws.{write_one}
use Rattle.storing.proofs.StoreLaws.{store_one}
use Rattle.handing.proofs.ColumnLaws.{column_one}
use Rattle.rebuild.proofs.RebuildLaws.{rebuild_one}
use Rattle.filling.proofs.FillLaws.{fill_one}
use Rattle.filling.proofs.ChooseLaws.{choose_one}
use Rattle.capi.specs.Told.{Numbered}
use Rattle.capi.specs.OneAnswer.{OneTold, OneEncode, OneCheck, OneLocate, OneSmallWrite, OneRawStore, OneFill, OneRebuild, OneColumn, OneChoose, OnePrices, OneStock}

-- ---- an answer alone

numbered : {Contract : Answer → List ℕ → Type 0} → ((a b : Answer) (x y : List ℕ) → Contract a x → Contract b y → (a ≡ b) × (x ≡ y)) → OneTold (Numbered Contract)
numbered one r q x y (a, u, i) (b, v, j) = let (e, same) = one a b x y u v in (i ∙ ap number e ∙ sym j, same)

pub one_encode : OneEncode
one_encode sh s = numbered (encode_one sh s)

pub one_small_write : OneSmallWrite
one_small_write sh s c r z = numbered (write_one sh s c r z)

pub one_raw_store : OneRawStore
one_raw_store sh s c r z = numbered (store_one sh s c r z)

pub one_fill : OneFill
one_fill sh s lost c z = numbered (fill_one sh s lost c z)

pub one_rebuild : OneRebuild
one_rebuild sh lost s room r q x y u v (a, p, i) (b, o, j) =
    let (e, same, cleared) = rebuild_one sh lost s room a b x y u v p o in (i ∙ ap number e ∙ sym j, same, cleared)

-- ---- a report

pub one_check : OneCheck
one_check sh s r q x y u v =
    let e = check_one sh s u.report v.report u.is v.is in (
      u.answers ∙ ap number e ∙ sym v.answers,
      u.holds ∙ ap (λ (z : Result Checked Refusal). (counts z).0 ∷ (counts z).1 ∷ []) e ∙ sym v.holds,
    )

pub one_locate : OneLocate
one_locate sh s r q x y u v =
    let e = locate_one sh s u.report v.report u.is v.is in (
      u.answers ∙ ap number e ∙ sym v.answers,
      u.holds ∙ ap (λ (z : Result Damage Refusal). (finding z).0 ∷ (finding z).1 ∷ []) e ∙ sym v.holds,
    )

pub one_prices : OnePrices
one_prices sh r q x y u v =
    let e = prices_one sh u.report v.report u.is v.is in (
      u.answers ∙ ap number e ∙ sym v.answers,
      u.holds ∙ ap (λ (z : Result Priced Refusal). (figures z).0 ∷ (figures z).1 ∷ (figures z).2 ∷ (figures z).3 ∷ []) e ∙ sym v.holds,
    )

pub one_stock : OneStock
one_stock i r q x y u v =
    let e = stock_one i u.report v.report u.is v.is in (
      u.answers ∙ ap number e ∙ sym v.answers,
      u.holds ∙ ap (λ (z : Result Shape Refusal). (shape_given z).m ∷ (shape_given z).n ∷ (shape_given z).w ∷ []) e ∙ sym v.holds,
    )

-- ---- a part

-- a part lies at one place only
place_one : (s r : Bor (List ℕ)) (a b : ℕ) → PartOf s r a → PartOf s r b → a ≡ b
place_one s r a b p q = omega arith

pub one_column : OneColumn
one_column sh s c x y u v = at (ℕ_discrete (length u.part.now) 0)
  where
    long : length u.part.now ≡ length v.part.now
    long = ap length (column_one sh s.now c u.part.now v.part.now u.is.read v.is.read)

    same : u.lies.start ≡ v.lies.start → x ≡ y
    same e = u.lies.told ∙ rw (e, long) (sym v.lies.told)

    at : Dec (length u.part.now ≡ 0) → x ≡ y
    at (yes z) = same (u.lies.empty z ∙ sym (v.lies.empty (sym long ∙ z)))
    at (no ne) =
        let ne' : length v.part.now ≢ 0 = λ z. ne (long ∙ z) in
        same (place_one s u.part _ _ (u.lies.own ne) (u.is.own ne) ∙ place_one s v.part _ _ (v.is.own ne') (v.lies.own ne'))

pub one_choose : OneChoose
one_choose sh s lost c buffer x y u v = at (ℕ_discrete (length u.part.now) 0) (lost? lost c)
  where
    long : length u.part.now ≡ length v.part.now
    long = ap length (choose_one sh s.now lost c buffer.now u.part.now v.part.now u.is.read v.is.read)

    same : u.lies.which ≡ v.lies.which → u.lies.start ≡ v.lies.start → x ≡ y
    same w e = u.lies.told ∙ rw (w, e, long) (sym v.lies.told)

    at : Dec (length u.part.now ≡ 0) → Dec (Lost lost c) → x ≡ y
    at (yes z) l =
        let (w, e) = u.lies.empty z in let (w', e') = v.lies.empty (sym long ∙ z) in same (w ∙ sym w') (e ∙ sym e')
    at (no ne) (yes l) =
        let ne' : length v.part.now ≢ 0 = λ z. ne (long ∙ z) in
        let (w, p) = u.lies.gone ne l in let (w', q) = v.lies.gone ne' l in
        same (w ∙ sym w') (place_one buffer u.part _ _ p (u.is.gone ne l) ∙ place_one buffer v.part _ _ (v.is.gone ne' l) q)
    at (no ne) (no n) =
        let ne' : length v.part.now ≢ 0 = λ z. ne (long ∙ z) in
        let (w, p) = u.lies.survives ne n in let (w', q) = v.lies.survives ne' n in
        same (w ∙ sym w') (place_one s u.part _ _ p (u.is.survives ne n) ∙ place_one s v.part _ _ (v.is.survives ne' n) q)
