-- Laws of choose: one part, and some; empty exactly where fill is refused.
use mathlib.Core.Path.{◌≡◌, refl, sym, ap, ◌∙◌}
use mathlib.Core.Logic.{◌↔◌, ◌≢◌}
use mathlib.Core.List.{List, []}
use Prim.Native.Nat.{ℕ, ◌<◌}
use native.Mathlib.Nat.{mul-pos}
use native.Mathlib.Omega.{arith}
use native.Mathlib.Decide.{ℕ_discrete}
use lib.ListN.{length, take, length-take}
use Rattle.shape.specs.declared.Shape.{Shape}
use Rattle.answer.specs.Answers.{Answer}
use Rattle.std.specs.Prelude.{Ok}
use Rattle.shape.specs.Place.{column_length, column}
use Rattle.answer.specs.Answers.{number}
use Rattle.shape.proofs.ColumnLaws.{length_column}
use Rattle.answer.proofs.AnswersLaws.{number_done, first_one}
use Rattle.shape.proofs.GoodLaws.{good_m, good_w}
use Rattle.answer.proofs.OutcomeLaws.{part_one, part_some}
use Rattle.rule.specs.declared.Losses.{Losses}
use Rattle.rule.specs.Losses.{Lost}
use Rattle.rule.proofs.Reading.{lost?}
use Rattle.filling.specs.Fill.{fill_table, Fill}
use Rattle.filling.specs.Choose.{Chosen, Choose}
use Rattle.filling.proofs.FillLaws.{FillGood, fill_done, fill_ready}

module _ (sh : Shape) (s : List ℕ) (lost : Losses) (wanted : ℕ) (buffer : List ℕ) where
  pub choose_one : (x y : List ℕ) → Choose sh s lost wanted buffer x → Choose sh s lost wanted buffer y → x ≡ y
  choose_one = part_one (λ h x y u v. at x y u v (lost? lost wanted))
    where
      at : (x y : List ℕ) → Chosen sh s lost wanted buffer x → Chosen sh s lost wanted buffer y → Dec (Lost lost wanted) → x ≡ y
      at x y u v (yes l) = u.gone l ∙ sym (v.gone l)
      at x y u v (no l) = u.survives l ∙ sym (v.survives l)

  pub choose_some : (x : List ℕ) × Choose sh s lost wanted buffer x
  choose_some = part_some {T = fill_table sh s lost wanted (length buffer)} [] (Chosen sh s lost wanted buffer) (fill_ready sh s lost wanted (length buffer))
      (λ h. at (lost? lost wanted))
    where
      at : Dec (Lost lost wanted) → (x : List ℕ) × Chosen sh s lost wanted buffer x
      at (yes l) = (take (column_length sh) buffer, record { survives = λ n. absurd (n l); gone = λ k. refl })
      at (no n) = (column sh s wanted, record { survives = λ k. refl; gone = λ l. absurd (n l) })

  -- ---- empty

  -- a part that is handed back is a whole column long
  chosen_long : FillGood sh s lost wanted (length buffer) → (part : List ℕ) → Chosen sh s lost wanted buffer part → length part ≡ column_length sh
  chosen_long o part h = at (lost? lost wanted)
    where
      at : Dec (Lost lost wanted) → length part ≡ column_length sh
      at (yes l) = ap length (h.gone l) ∙ omega (arith, length-take (column_length sh) buffer, o.buffer)
      at (no l) = ap length (h.survives l) ∙ length_column sh (good_m sh o.shape) (good_w sh o.shape) s o.stripe wanted o.within

  pub choose_empty : (part buffer' : List ℕ) (a : Answer) → Choose sh s lost wanted buffer part → Fill sh s lost wanted buffer a buffer'
      → (length part ≡ 0) ↔ (a ≢ (Ok tt))
  choose_empty part buffer' a (k, p) q = (full (ℕ_discrete k 0), (λ ne. ap length (p.refused (λ e. ne ((number_done a).0 (sym same ∙ e))))))
    where
      same : k ≡ number a
      same = first_one (fill_table sh s lost wanted (length buffer)) k (number a) p.answer q.answer

      full : Dec (k ≡ 0) → length part ≡ 0 → a ≢ (Ok tt)
      full (yes z) e d =
          let o = fill_done sh s lost wanted (length buffer) (rw z at p.answer) in
          let pos : 0 < column_length sh = mul-pos (good_m sh o.shape) (good_w sh o.shape) in
          omega (arith, chosen_long o part (p.done z))
      full (no z) e d = z (same ∙ (number_done a).1 d)
