-- The cases on the stripe of (2, 5), w 1: P5 to P10, and fill, choose and column beyond them.
use mathlib.Core.Path.{◌≡◌, refl, sym, ap₂, ◌∙◌}
use mathlib.Core.Logic.{◌≢◌, ◌⊎◌, inl, inr, ⊎_elim}
use mathlib.Core.Bool.{true, not, ◌||◌, true≢false}
use mathlib.Core.List.{List, [], ◌∷◌}
use Prim.Native.Nat.{ℕ, zero, suc, ◌*◌, ◌≤◌, ◌<◌}
use native.Mathlib.Omega.{arith}
use lib.ListN.{length, get_or, replicate, length-replicate, get_or-replicate}
use lib.Dec.{eqb}
use lib.Count.{ones}
use borrow.Author.Tests.{eqb-true, ne_eqb, not-true}
use Rattle.xor.specs.Xor.{◌⊕◌, xors}
use Rattle.xor.specs.Total.{total}
use Rattle.shape.specs.declared.Shape.{Shape}
use Rattle.std.specs.Prelude.{Err}
use Rattle.answer.specs.declared.Refusal.TheVariants.{Disagree}
use Rattle.shape.specs.Good.{size, Good}
use Rattle.shape.specs.Place.{height, row, slot, place, byte, column_length}
use Rattle.shape.specs.Step.{left, right}
use Rattle.answer.specs.Answers.{refusal_number, number}
use Rattle.shape.proofs.GoodLaws.{good_m, good_room, stripe_done, stripe_pass}
use Rattle.rule.specs.declared.Losses.{Losses}
use Rattle.rule.specs.declared.Losses.TheVariants.{One, Two}
use Rattle.rule.specs.Rule.{others, chain, differs, Obeys}
use Rattle.rule.specs.Losses.{Beyond, Twice, Bytes, Solves, Disagrees}
use Rattle.rule.specs.Outer.{walk, first}
use Rattle.locating.specs.declared.Damage.{Damage}
use Rattle.checking.specs.Check.{some, count, breaks, broken_chains, differing_bits}
use Rattle.locating.specs.Locate.{Mends, found}
use Rattle.writing.specs.Write.{write_table}
use Rattle.storing.specs.Store.{store_table}
use Rattle.locating.proofs.Explains.{explains_is_mends}
use Rattle.locating.proofs.LocateLaws.{mends_one}
use Rattle.rebuild.specs.Rebuild.{Rebuild, Cleared}
use Rattle.rebuild.proofs.RebuildLaws.{rebuild_accepted, late_outcome}
use Rattle.demands.specs.Cases.{Case, Holds, woven, five, sh₅, information, parity, stripe₅, lost_0_2, lost_4_0, cleared_0, flipped_0_1}
use Rattle.demands.proofs.Tests.{all, all_true, obeys_test, obeys_by, disobeys_by, pairs_test, away_test, explains_test, explains_by, same_test, same_by, lost_test, agrees_by, bytes_by, struck_test, struck_not}

-- ---- the stripe of (2, 5), w 1

pub good₅ : Good sh₅
unfolding size
good₅ = record { m_fits = omega arith; n_fits = omega arith; w_fits = omega arith; all_fits = omega arith }

pub neither : {A B : Type 0} → ¬ A → ¬ B → ¬ (A ⊎ B)
neither f g = ⊎_elim f g

pub p5 : Holds (Case.encodes information parity)
unfolding number woven information parity size place slot row byte left right chain differs others xors ◌⊕◌ all obeys_test same_test
p5 a b c d e = record {
  answer = (stripe_done sh₅ (woven information (five a b c d e))).0 (good₅, refl);
  refused = λ ne. absurd (ne refl);
  done = λ z. record {
    long = refl;
    information = λ h j t lo hd hc ht.
        same_by sh₅ (λ h j. eqb h 0) (woven information parity) (woven information (five a b c d e)) refl h j t hd hc ht (ne_eqb h 0 (omega arith));
    obeys = obeys_by sh₅ (woven information parity) refl;
  };
}

-- ---- P6, P7: lost columns come back

-- a stripe of bytes that obeys the rule
pub record Sound₅ (x : List ℕ) : Type 0 where
  pub long : length x ≡ size sh₅
  pub bytes : Bytes x
  pub obeys : Obeys sh₅ x

pub sound₅ : Sound₅ stripe₅
unfolding woven information parity stripe₅ size place slot row byte left right chain differs others xors ◌⊕◌ all obeys_test
sound₅ = record { long = refl; bytes = bytes_by stripe₅ refl; obeys = obeys_by sh₅ stripe₅ refl }

-- a clear workspace
pub clear : (room : ℕ) → Cleared room (replicate room 0)
clear room = record { long = length-replicate room 0; zero = λ i h. get_or-replicate room i 0 0 h }

module _ (lost : Losses) (lent x : List ℕ) (sound : Sound₅ x) (len : length lent ≡ size sh₅) (fit : ¬ Beyond 5 lost) (apart : ¬ Twice lost)
    (test : same_test sh₅ (λ d c. lost_test lost c) x lent ≡ true) where
  pub solves₅ : Solves sh₅ lost lent x
  solves₅ = record { long = sound.long ∙ sym len; bytes = sound.bytes; obeys = sound.obeys; agrees = agrees_by sh₅ lost lent x test }

  pub comes_back : Holds (Case.rebuilds sh₅ lost lent x)
  unfolding number
  comes_back room enough = record {
    outcome = record {
      answer = rebuild_accepted sh₅ lost lent room (record { shape = good₅; stripe = len; workspace = omega arith; columns = fit; apart = apart }) x solves₅;
      refused = λ ne. absurd (ne refl);
      done = λ e. solves₅;
    };
    cleared = clear room;
  }

pub p6 : Holds (Case.rebuilds sh₅ (Two 0 2) lost_0_2 stripe₅)
unfolding woven information parity stripe₅ lost_0_2 size place slot row byte all same_test lost_test
p6 = comes_back (Two 0 2) lost_0_2 stripe₅ sound₅ refl (neither (λ h. omega arith) (λ h. omega arith)) (λ z. omega arith) refl

pub p7 : Holds (Case.is_first 5 4 0 4) × Holds (Case.is_first 5 0 4 4) × Holds (Case.rebuilds sh₅ (Two 4 0) lost_4_0 stripe₅)
unfolding woven information parity stripe₅ lost_4_0 size place slot row byte all same_test lost_test first walk
p7 = (refl, refl, comes_back (Two 4 0) lost_4_0 stripe₅ sound₅ refl (neither (λ h. omega arith) (λ h. omega arith)) (λ z. omega arith) refl)

-- ---- a lost column with which no stripe agrees

-- where a change within column c makes the stripe sound, none within another column does
pub none₅ : (lent : List ℕ) → length lent ≡ size sh₅ → ¬ Obeys sh₅ lent → (c e : ℕ) → e < 5 → c ≢ e → Mends sh₅ lent c → Disagrees sh₅ (One e) lent
none₅ lent len bad c e he ne mends x h = ne (mends_one sh₅ lent good₅ len bad c e mends (he, x, h))

-- a rebuild of it is refused, and leaves it as lent
pub stays : (lent : List ℕ) → length lent ≡ size sh₅ → (e : ℕ) → e < 5 → Disagrees sh₅ (One e) lent
    → (room : ℕ) → 2 * column_length sh₅ ≤ room → Rebuild sh₅ (One e) lent room (Err Disagree) lent (replicate room 0)
unfolding number refusal_number
stays lent len e he none room enough = record {
  outcome = late_outcome sh₅ (One e) lent room 9 lent (record { shape = good₅; stripe = len; workspace = enough; columns = λ z. omega arith; apart = λ z. z })
      (record { answer = inl (none, refl); refused = λ ne. refl; done = λ e. absurd (omega arith) });
  cleared = clear room;
}

-- ---- P8 to P10: one byte v put into row r of column c

module _ (lent left : List ℕ) (c r v : ℕ) (hc : c < 5) (len : length lent ≡ size sh₅) (long : length left ≡ length lent)
    (put : byte sh₅ left 0 (height sh₅ r) c ≡ v) where
  one_byte : (t : ℕ) → t < 1 → byte sh₅ left t (height sh₅ r) c ≡ get_or (v ∷ []) t 0
  one_byte zero h = put
  one_byte (suc t) h = absurd (omega arith)

  pub stores : r < 2 → same_test sh₅ (struck_test (height sh₅ r) c) left lent ≡ true → Holds (Case.raw_stores sh₅ lent c r (v ∷ []) left)
  unfolding number store_table
  stores hr test = record {
    answer = stripe_pass sh₅ lent _ 0 good₅ len (inr (neither (λ z. omega arith) (λ z. omega arith), inr ((λ ne. ne refl), refl)));
    refused = λ ne. absurd (ne refl);
    done = λ e. record {
      long = long;
      new = one_byte;
      rest = λ d j t hd hj ht h. same_by sh₅ (struck_test (height sh₅ r) c) left lent test d j t hd hj ht (struck_not (height sh₅ r) c d j h);
    };
  }

  pub writes : r < 1 → same_test sh₅ (λ d j. struck_test (height sh₅ r) c d j || eqb d 0) left lent ≡ true
      → all 5 (λ p. all 1 (λ t. eqb (differs sh₅ left p t) (differs sh₅ lent p t))) ≡ true → Holds (Case.small_writes sh₅ lent c r (v ∷ []) left)
  unfolding number write_table
  writes hr test chains = record {
    answer = stripe_pass sh₅ lent _ 0 good₅ len (inr (neither (λ z. omega arith) (λ z. omega arith), inr ((λ ne. ne refl), refl)));
    refused = λ ne. absurd (ne refl);
    done = λ e. record {
      long = long;
      new = one_byte;
      information = λ d j t lo hd hj ht h.
          same_by sh₅ (λ d j. struck_test (height sh₅ r) c d j || eqb d 0) left lent test d j t hd hj ht
          (ap₂ ◌||◌ (struck_not (height sh₅ r) c d j h) (ne_eqb d 0 (omega arith)));
      chains = λ p t hp ht. eqb-true _ _ ((all_true 1 _).0 ((all_true 5 _).0 chains p hp) t ht);
    };
  }

pub p8 : Holds (Case.small_writes sh₅ stripe₅ 4 0 (0xFF ∷ []) (woven (five 0x01 0x02 0x04 0x08 0xFF) (five 0xFD 0x05 0x0A 0xFB 0x09)))
unfolding woven information parity stripe₅ size height place slot row byte left right chain others xors ◌⊕◌ all same_test struck_test differs
p8 = writes stripe₅ (woven (five 0x01 0x02 0x04 0x08 0xFF) (five 0xFD 0x05 0x0A 0xFB 0x09)) 4 0 0xFF (omega arith) refl refl refl (omega arith) refl refl

pub store₉ : Holds (Case.raw_stores sh₅ stripe₅ 0 0 (0x00 ∷ []) cleared_0)
unfolding woven information parity stripe₅ cleared_0 size height place slot row byte all same_test struck_test
store₉ = stores stripe₅ cleared_0 0 0 0 (omega arith) refl refl refl (omega arith) refl

pub store₁₀ : Holds (Case.raw_stores sh₅ cleared_0 1 0 (0x03 ∷ []) flipped_0_1)
unfolding woven parity cleared_0 flipped_0_1 size height place slot row byte all same_test struck_test
store₁₀ = stores cleared_0 flipped_0_1 1 0 3 (omega arith) refl refl refl (omega arith) refl

-- ---- counts

module _ (sh : Shape) (good : Good sh) (s : List ℕ) (len : length s ≡ size sh) (x y : ℕ) where
  pub counted : ◌≡◌ {A = ℕ × ℕ} (x, y) (broken_chains sh s, differing_bits sh s) → Holds (Case.counts sh s x y)
  unfolding number
  counted e = record { answer = (stripe_done sh s).0 (good, len); refused = λ ne. absurd (ne refl); done = λ z. e }

pub counts₅ : Holds (Case.counts sh₅ cleared_0 2 2) × Holds (Case.counts sh₅ flipped_0_1 4 4) × Holds (Case.counts sh₅ (woven (five 0xFE 0x02 0x04 0x08 0x10) parity) 2 16)
unfolding woven parity cleared_0 flipped_0_1 size place slot row byte left right chain others xors ◌⊕◌ differs some count total breaks broken_chains differing_bits ones
counts₅ = (
  counted sh₅ good₅ cleared_0 refl 2 2 refl,
  counted sh₅ good₅ flipped_0_1 refl 4 4 refl,
  counted sh₅ good₅ (woven (five 0xFE 0x02 0x04 0x08 0x10) parity) refl 2 16 refl,
)

-- ---- finds

bytes₁₀ : Bytes flipped_0_1
unfolding woven parity flipped_0_1 all
bytes₁₀ = bytes_by flipped_0_1 refl

-- P9's stripe does not obey, and a change within column 0 makes it sound
pub damaged₉ : (length cleared_0 ≡ size sh₅) × Bytes cleared_0 × (¬ Obeys sh₅ cleared_0) × Mends sh₅ cleared_0 0
unfolding woven information parity stripe₅ cleared_0 size place slot row byte left right chain differs others xors ◌⊕◌ all obeys_test same_test lost_test
damaged₉ = (
  refl,
  bytes_by cleared_0 refl,
  disobeys_by sh₅ cleared_0 refl,
  (omega arith, stripe₅, solves₅ (One 0) cleared_0 stripe₅ sound₅ refl (λ z. omega arith) (λ z. z) refl),
)

pub find₉ : Holds (Case.finds sh₅ cleared_0 (Damage.Column 0))
unfolding number found
find₉ =
    let (long, bytes, bad, mends) = damaged₉ in
    record { answer = (stripe_done sh₅ cleared_0).0 (good₅, long); refused = λ ne. absurd (ne refl); done = λ e. inr (inl (refl, bad, mends)) }

none_explains : all 5 (λ c. not (explains_test sh₅ flipped_0_1 c)) ≡ true
unfolding woven parity flipped_0_1 size place slot row byte left right chain differs others xors ◌⊕◌ all pairs_test away_test explains_test
none_explains = refl

pub find₁₀ : Holds (Case.finds sh₅ flipped_0_1 Damage.Several)
unfolding number found woven parity flipped_0_1 size place slot row byte left right chain differs others xors ◌⊕◌ all obeys_test
find₁₀ = record {
  answer = (stripe_done sh₅ flipped_0_1).0 (good₅, refl);
  refused = λ ne. absurd (ne refl);
  done = λ e. inr (inr (
    refl,
    disobeys_by sh₅ flipped_0_1 refl,
    λ c h.
        true≢false (sym (explains_by sh₅ flipped_0_1 c h.0 ((explains_is_mends sh₅ (good_m sh₅ good₅) (good_room sh₅ good₅) flipped_0_1 refl c h.0 bytes₁₀).1 h))
        ∙ not-true _ ((all_true 5 (λ c. not (explains_test sh₅ flipped_0_1 c))).0 none_explains c h.0)),
  ));
}
