-- The cases of fill, choose and column on the stripe of (2, 5), w 1.
use mathlib.Core.Path.{◌≡◌, refl, ap, ◌∙◌}
use mathlib.Core.Logic.{inl, inr}
use mathlib.Core.List.{List, [], ◌∷◌}
use Prim.Native.Nat.{ℕ, zero, suc, ◌≤◌, ◌<◌}
use native.Mathlib.Omega.{arith}
use lib.ListN.{length, get_or}
use Rattle.xor.specs.Xor.{◌⊕◌, xors}
use Rattle.std.specs.Prelude.{Err}
use Rattle.answer.specs.declared.Refusal.TheVariants.{BadBuffer}
use Rattle.shape.specs.Good.{size}
use Rattle.shape.specs.Place.{row, slot, place, byte, column}
use Rattle.shape.specs.Step.{left, right}
use Rattle.answer.specs.Answers.{refusal_number, number, First}
use Rattle.shape.proofs.GoodLaws.{stripe_pass}
use Rattle.rule.specs.declared.Losses.{Losses}
use Rattle.rule.specs.declared.Losses.TheVariants.{None, One, Two}
use Rattle.rule.specs.Rule.{chain, others, differs}
use Rattle.rule.specs.Losses.{Beyond, Twice}
use Rattle.rule.specs.Outer.{Outer}
use Rattle.rule.proofs.SolvesLaws.{solves_outer}
use Rattle.handing.specs.Column.{column_table}
use Rattle.filling.specs.Fill.{fill_table, Filled, Fill}
use Rattle.filling.specs.Choose.{Choose}
use Rattle.demands.specs.Cases.{Case, Holds, woven, five, sh₅, information, parity, stripe₅, lost_0_2, flipped_0_1}
use Rattle.demands.proofs.Tests.{all, left_test, left_by, same_test, lost_test, agrees_by}
use Rattle.demands.proofs.Five.{good₅, neither, sound₅, solves₅}

-- ---- tables

module _ (s : List ℕ) (len : length s ≡ size sh₅) (lost : Losses) (fit : ¬ Beyond 5 lost) (apart : ¬ Twice lost) (wanted : ℕ) (hw : wanted < 5) (room : ℕ) where
  -- fill's table lets a good call pass, and stops one whose buffer is short
  passes : 2 ≤ room → First (fill_table sh₅ s lost wanted room) 0
  unfolding fill_table
  passes h = stripe_pass sh₅ s _ 0 good₅ len (inr (neither fit (λ z. omega arith), inr (apart, inr ((λ z. omega arith), refl))))

  stops : room < 2 → First (fill_table sh₅ s lost wanted room) 8
  unfolding fill_table
  stops h = stripe_pass sh₅ s _ 8 good₅ len (inr (neither fit (λ z. omega arith), inr (apart, inl (omega arith, refl))))

pub fit₂ : ¬ Beyond 5 (Two 0 2)
fit₂ = neither (λ h. omega arith) (λ h. omega arith)

-- ---- fill

-- the two bytes of a column at the front of the buffer
module _ (s : List ℕ) (lost : Losses) (wanted : ℕ) (lent left x : List ℕ) (out : Outer sh₅ lost s x) (long : length left ≡ length lent)
    (low : get_or left 1 0 ≡ byte sh₅ x 0 0 wanted) (high : get_or left 0 0 ≡ byte sh₅ x 0 1 wanted)
    (rest : (i : ℕ) → 2 ≤ i → i < length lent → get_or left i 0 ≡ get_or lent i 0) where
  filled₅ : Filled sh₅ s lost wanted lent left
  unfolding place slot row
  filled₅ = record { x = x; outer = out; long = long; front = at; rest = rest }
    where
      at : (d t : ℕ) → d < 2 → t < 1 → get_or left (place sh₅ d 0 t) 0 ≡ byte sh₅ x t d wanted
      at zero zero hd ht = low
      at (suc zero) zero hd ht = high
      at (suc (suc d)) t hd ht = absurd (omega arith)
      at zero (suc t) hd ht = absurd (omega arith)
      at (suc zero) (suc t) hd ht = absurd (omega arith)

fill_0 : Holds (Case.fills sh₅ lost_0_2 (Two 0 2) 0 (0xAA ∷ 0xBB ∷ 0xCC ∷ 0xDD ∷ []) (0x01 ∷ 0x12 ∷ 0xCC ∷ 0xDD ∷ []))
unfolding number woven information parity stripe₅ lost_0_2 size place slot row byte all same_test lost_test
fill_0 = record {
  answer = passes lost_0_2 refl (Two 0 2) fit₂ (λ z. omega arith) 0 (omega arith) 4 (omega arith);
  refused = λ ne. absurd (ne refl);
  done = λ e. record {
    gone = λ l. filled₅ lost_0_2 (Two 0 2) 0 _ _ stripe₅
        (solves_outer sh₅ good₅ (Two 0 2) fit₂ (λ z. omega arith) lost_0_2 stripe₅ (solves₅ (Two 0 2) lost_0_2 stripe₅ sound₅ refl fit₂ (λ z. omega arith) refl))
        refl refl refl (tail 0x01 0x12 0xAA 0xBB (0xCC ∷ 0xDD ∷ []));
    survives = λ l. absurd (l (inl refl));
  };
}
  where
    tail : (a b c d : ℕ) (rest : List ℕ) (i : ℕ) → 2 ≤ i → i < 4 → get_or (a ∷ b ∷ rest) i 0 ≡ get_or (c ∷ d ∷ rest) i 0
    tail a b c d rest zero lo hi = absurd (omega arith)
    tail a b c d rest (suc zero) lo hi = absurd (omega arith)
    tail a b c d rest (suc (suc i)) lo hi = refl

fill_1 : Holds (Case.fills sh₅ lost_0_2 (Two 0 2) 1 (0xAA ∷ 0xBB ∷ []) (0xAA ∷ 0xBB ∷ []))
unfolding number woven lost_0_2 size
fill_1 = record {
  answer = passes lost_0_2 refl (Two 0 2) fit₂ (λ z. omega arith) 1 (omega arith) 2 (omega arith);
  refused = λ ne. refl;
  done = λ e. record { gone = λ l. absurd (neither (λ z. omega arith) (λ z. omega arith) l); survives = λ l. refl };
}

-- P10's stripe with column 0 solved: the chains of column 0 hold, others do not
pub solved₁₀ : List ℕ
solved₁₀ = woven (five 0x01 0x03 0x04 0x08 0x10) (five 0x13 0x05 0x0A 0x14 0x09)

pub outer₁₀ : Outer sh₅ (One 0) flipped_0_1 solved₁₀
unfolding woven parity flipped_0_1 solved₁₀ size place slot row byte left right chain differs others xors ◌⊕◌ all left_test same_test lost_test
outer₁₀ = record {
  long = refl;
  agrees = agrees_by sh₅ (One 0) flipped_0_1 solved₁₀ refl;
  holds = λ p t u ht. ap (λ (q : ℕ). differs sh₅ solved₁₀ q t) u.2 ∙ left_by sh₅ solved₁₀ 0 refl u.0 t u.1 ht;
}

fill_10 : Holds (Case.fills sh₅ flipped_0_1 (One 0) 0 (0xAA ∷ 0xBB ∷ []) (0x01 ∷ 0x13 ∷ []))
unfolding number woven parity flipped_0_1 solved₁₀ size place slot row byte
fill_10 = record {
  answer = passes flipped_0_1 refl (One 0) (λ z. omega arith) (λ z. z) 0 (omega arith) 2 (omega arith);
  refused = λ ne. absurd (ne refl);
  done = λ e. record {
    gone = λ l. filled₅ flipped_0_1 (One 0) 0 _ _ solved₁₀ outer₁₀ refl refl refl (λ i lo hi. absurd (omega arith));
    survives = λ l. absurd (l refl);
  };
}

-- a buffer of one byte is short
pub fill_short : Fill sh₅ lost_0_2 None 1 (0xAA ∷ []) (Err BadBuffer) (0xAA ∷ [])
unfolding number refusal_number woven lost_0_2 size
fill_short = record {
  answer = stops lost_0_2 refl None (λ z. z) (λ z. z) 1 (omega arith) 1 (omega arith);
  refused = λ ne. refl;
  done = λ e. absurd (omega arith);
}

pub fills₅ : Holds (Case.fills sh₅ lost_0_2 (Two 0 2) 0 (0xAA ∷ 0xBB ∷ 0xCC ∷ 0xDD ∷ []) (0x01 ∷ 0x12 ∷ 0xCC ∷ 0xDD ∷ []))
    × Holds (Case.fills sh₅ lost_0_2 (Two 0 2) 1 (0xAA ∷ 0xBB ∷ []) (0xAA ∷ 0xBB ∷ []))
    × Holds (Case.fills sh₅ flipped_0_1 (One 0) 0 (0xAA ∷ 0xBB ∷ []) (0x01 ∷ 0x13 ∷ []))
fills₅ = (fill_0, fill_1, fill_10)

-- ---- choose and column

pub chooses₅ : Holds (Case.chooses sh₅ lost_0_2 (Two 0 2) 1 (0xAA ∷ 0xBB ∷ []) (0x02 ∷ 0x05 ∷ []))
    × Holds (Case.chooses sh₅ lost_0_2 (Two 0 2) 2 (0xAA ∷ 0xBB ∷ 0xCC ∷ []) (0xAA ∷ 0xBB ∷ []))
    × Holds (Case.chooses sh₅ lost_0_2 None 1 (0xAA ∷ []) [])
unfolding woven lost_0_2 size column
chooses₅ = (
  (
    0,
    record {
      answer = passes lost_0_2 refl (Two 0 2) fit₂ (λ z. omega arith) 1 (omega arith) 2 (omega arith);
      refused = λ ne. absurd (ne refl);
      done = λ e. record { survives = λ l. refl; gone = λ l. absurd (neither (λ z. omega arith) (λ z. omega arith) l) };
    },
  ),
  (
    0,
    record {
      answer = passes lost_0_2 refl (Two 0 2) fit₂ (λ z. omega arith) 2 (omega arith) 3 (omega arith);
      refused = λ ne. absurd (ne refl);
      done = λ e. record { survives = λ l. absurd (l (inr refl)); gone = λ l. refl };
    },
  ),
  (
    8,
    record {
      answer = stops lost_0_2 refl None (λ z. z) (λ z. z) 1 (omega arith) 1 (omega arith);
      refused = λ ne. refl;
      done = λ e. absurd (omega arith);
    },
  ),
)

-- column 0 of P6 is the front of the buffer
pub choose_0 : (a b c d : ℕ) → Choose sh₅ lost_0_2 (Two 0 2) 0 (a ∷ b ∷ c ∷ d ∷ []) (a ∷ b ∷ [])
unfolding woven lost_0_2 size
choose_0 a b c d = (
  0,
  record {
    answer = passes lost_0_2 refl (Two 0 2) fit₂ (λ z. omega arith) 0 (omega arith) 4 (omega arith);
    refused = λ ne. absurd (ne refl);
    done = λ e. record { survives = λ l. absurd (l (inl refl)); gone = λ l. refl };
  },
)

pub hands_out₅ : Holds (Case.hands_out sh₅ stripe₅ 3 (0x08 ∷ 0x14 ∷ [])) × Holds (Case.hands_out sh₅ stripe₅ 5 [])
unfolding woven information parity stripe₅ size column column_table
hands_out₅ = (
  (0, record { answer = stripe_pass sh₅ stripe₅ _ 0 good₅ refl (inr ((λ z. omega arith), refl)); refused = λ ne. absurd (ne refl); done = λ e. refl }),
  (6, record { answer = stripe_pass sh₅ stripe₅ _ 6 good₅ refl (inl (omega arith, refl)); refused = λ ne. refl; done = λ e. absurd (omega arith) }),
)
