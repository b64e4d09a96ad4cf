-- What rebuild's contract says of the checks: one outcome, whatever the workspace held, and a workspace that is all zero.
use mathlib.Core.Path.{◌≡◌, refl, sym, ap, ◌∙◌}
use mathlib.Core.Bool.{Bool, true, true≢false}
use mathlib.Core.Logic.{◌≢◌, ◌⊎◌, inl, inr, ⊎_elim}
use mathlib.Core.List.{List}
use Prim.Native.Nat.{ℕ, ◌+◌, ◌-◌, ◌*◌, ◌≤◌, ◌<◌}
use native.Mathlib.Omega.{arith}
use native.Mathlib.Decide.{dec_lt}
use lib.ListN.{length, get_or}
use Rattle.shape.specs.declared.Shape.{Shape}
use Rattle.std.specs.Prelude.{Ok, Err, is_err}
use Rattle.std.specs.Result.{result_eq}
use Rattle.answer.specs.declared.Refusal.{Refusal}
use Rattle.answer.specs.Answers.{Answer}
use Rattle.shape.specs.Good.{size, Good, shape}
use Rattle.shape.specs.Place.{row, slot, place, byte}
use Rattle.answer.specs.Answers.{number}
use Rattle.shape.specs.Refusals.{stripe_table}
use Rattle.answer.proofs.AnswersLaws.{first_one, refused}
use Rattle.shape.proofs.GoodLaws.{stripe_done}
use Rattle.rule.specs.declared.Losses.{Losses}
use Rattle.rule.specs.declared.Losses.TheVariants.{Two}
use Rattle.rule.specs.Rule.{Obeys}
use Rattle.rule.specs.Losses.{Bytes, Agrees}
use Rattle.encoding.specs.Encode.{Encode}
use Rattle.rebuild.specs.Rebuild.{Rebuild}
use Rattle.rebuild.proofs.RebuildLaws.{rebuild_one, rebuild_solves}

pub same_outcome : {sh : Shape} {lost : Losses} {s : List ℕ} {room own : ℕ} {a b : Answer} {x y u v : List ℕ} → room ≡ own
    → Rebuild sh lost s room a x u → Rebuild sh lost s own b y v → (a ≡ b) × (x ≡ y)
same_outcome {sh} {lost} {s} {room} {own} {a} {b} {x} {y} {u} {v} e p q =
    let one = rebuild_one sh lost s own a b x y u v (rw e at p) q in (one.0, one.1)

-- equal answers are alike for `==`
pub same_answer : (E : Unit {0} → Unit {0} → Bool) (F : Refusal → Refusal → Bool) (a b : Answer) → E tt tt ≡ true → ((r : Refusal) → F r r ≡ true) → a ≡ b → result_eq E F a b ≡ true
same_answer E F a b done same e = rw (sym e) (alike a)
  where
    alike : (k : Answer) → result_eq E F k k ≡ true
    alike (Ok x) = done
    alike (Err r) = same r

-- an `Err` has a number other than 0
pub failed : (a : Answer) → true ≡ is_err a → number a ≢ 0
failed (Ok x) e = absurd (true≢false e)
failed (Err r) e = refused refl

-- an encoded stripe obeys the rule
pub obeys_told : (sh : Shape) (s : List ℕ) (a : Answer) (x : List ℕ) → Encode sh s a x → Good sh → length s ≡ size sh → Obeys sh x
obeys_told sh s a x h good len = (h.done (first_one (stripe_table sh s) (number a) 0 h.answer ((stripe_done sh s).0 (good, len)))).obeys

good₇ : Good (shape 3 9 7)
unfolding size
good₇ = record { m_fits = omega arith; n_fits = omega arith; w_fits = omega arith; all_fits = omega arith }

-- the stripe that obeys the rule and agrees with the survivors is what is left
pub back_told : {s whole : List ℕ} {room : ℕ} {a : Answer} {x u : List ℕ} → Rebuild (shape 3 9 7) (Two 2 6) s room a x u → 42 ≤ room → length s ≡ 189 → length whole ≡ 189
    → Bytes whole → (Good (shape 3 9 7) → length whole ≡ size (shape 3 9 7) → Obeys (shape 3 9 7) whole) → Agrees (shape 3 9 7) (Two 2 6) s whole → x ≡ whole
unfolding size
back_told {s} {whole} {room} {a} {x} {u} p enough len long bytes obeys agrees =
    (rebuild_solves (shape 3 9 7) (Two 2 6) s room a x u p
    (record { shape = good₇; stripe = len; workspace = enough; columns = ⊎_elim (λ z. omega arith) (λ z. omega arith); apart = λ z. omega arith })
    whole (record { long = omega arith; bytes = bytes; obeys = obeys good₇ long; agrees = agrees })).1

-- a byte of a column that is not lost stands outside the spoilt places
pub agrees_told : {s whole : List ℕ} → ((i : ℕ) → (i < 42) ⊎ ((63 ≤ i) × (i < 126)) ⊎ (147 ≤ i) → get_or s i 0 ≡ get_or whole i 0) → Agrees (shape 3 9 7) (Two 2 6) s whole
unfolding byte place slot row
agrees_told {s} {whole} h = record { same = λ d c t hd hc ht not_lost. sym (h (c * 21 + (2 - d) * 7 + t) (outside d c t hd ht (λ e. not_lost (inl e)) (λ e. not_lost (inr e)) (dec_lt c 2) (dec_lt c 6))) }
  where
    outside : (d c t : ℕ) → d < 3 → t < 7 → c ≢ 2 → c ≢ 6 → Dec (c < 2) → Dec (c < 6) → (c * 21 + (2 - d) * 7 + t < 42) ⊎ ((63 ≤ c * 21 + (2 - d) * 7 + t) × (c * 21 + (2 - d) * 7 + t < 126)) ⊎ (147 ≤ c * 21 + (2 - d) * 7 + t)
    outside d c t hd ht n k (yes l) e = inl (omega arith)
    outside d c t hd ht n k (no g) (yes l) = inr (inl (omega arith))
    outside d c t hd ht n k (no g) (no f) = inr (inr (omega arith))

-- two columns spoilt in a copy: the others agree
pub spoilt_told : (a b : List ℕ) {s whole : List ℕ} → a ≡ whole → ((i : ℕ) → (i < 42) ⊎ (63 ≤ i) → get_or b i 0 ≡ get_or a i 0)
    → ((i : ℕ) → (i < 126) ⊎ (147 ≤ i) → get_or s i 0 ≡ get_or b i 0) → Agrees (shape 3 9 7) (Two 2 6) s whole
spoilt_told a b {s} {whole} same first second = agrees_told at
  where
    at : (i : ℕ) → (i < 42) ⊎ ((63 ≤ i) × (i < 126)) ⊎ (147 ≤ i) → get_or s i 0 ≡ get_or whole i 0
    at i (inl l) = second i (inl (omega arith)) ∙ first i (inl l) ∙ ap (λ (z : List ℕ). get_or z i 0) same
    at i (inr (inl l)) = second i (inl l.1) ∙ first i (inr l.0) ∙ ap (λ (z : List ℕ). get_or z i 0) same
    at i (inr (inr l)) = second i (inr l) ∙ first i (inr (omega arith)) ∙ ap (λ (z : List ℕ). get_or z i 0) same
