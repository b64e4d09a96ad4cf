-- Laws of fill: one outcome, and some; the order of the names has no say; equal to rebuild's where rebuild accepts.
use mathlib.Core.Path.{◌≡◌, refl, sym, ap, ◌∙◌}
use mathlib.Core.Logic.Dec
use mathlib.Core.Logic.Iff
use mathlib.Core.Logic.{◌≢◌, ◌⊎◌, inl, inr, ⊎_swap}
use mathlib.Core.Bool.{cond}
use mathlib.Core.List.{List}
use Prim.Native.Nat.{ℕ, ◌≤◌, ◌<◌}
use native.Mathlib.Omega.{arith}
use native.Mathlib.Decide.{dec_le, dec_lt}
use lib.ListN.{length, get_or}
use lib.Seq.{ext_get_or}
use lib.Dec.{ltb}
use borrow.Author.Tests.{lt-ltb, le-ltb}
use Rattle.shape.specs.declared.Shape.{Shape}
use Rattle.answer.specs.Answers.{Answer}
use Rattle.std.specs.Prelude.{Ok, Err}
use Rattle.answer.specs.declared.Refusal.TheVariants.{NoSuchPlace, SameColumn, BadBuffer}
use Rattle.shape.specs.Good.{Good, size}
use Rattle.shape.specs.Place.{column_length, place, byte}
use Rattle.answer.specs.Answers.{refusal_number, number, First, Rises}
use Rattle.shape.specs.Refusals.{shape_table, stripe_table}
use Rattle.shape.proofs.PlaceLaws.{height_at, offset_at, height_at_lt, offset_at_lt, height_at_place, offset_at_place, place_in, front_lt}
use Rattle.shape.proofs.Made.{listed, length_listed, get_or_listed}
use Rattle.answer.proofs.AnswersLaws.{first_clear, Like, like_append, like_first}
use Rattle.shape.proofs.GoodLaws.{good_m, good_w, stripe_clear, stripe_like}
use Rattle.answer.proofs.OutcomeLaws.{Ready, either?, call_one, call_some}
use Rattle.shape.proofs.Ready.{stripe_ready_rest}
use Rattle.rule.specs.declared.Losses.{Losses}
use Rattle.rule.specs.declared.Losses.TheVariants.{Two}
use Rattle.rule.specs.Losses.{Lost, Beyond, Twice}
use Rattle.rule.proofs.Reading.{lost?, beyond?, twice?}
use Rattle.rule.proofs.OuterLaws.{outer_one, outer_some, outer_either}
use Rattle.filling.specs.Fill.{fill_table, Filled, Fills, Fill}

-- the call is good
pub record FillGood (sh : Shape) (s : List ℕ) (lost : Losses) (wanted room : ℕ) : Type 0 where
  pub shape : Good sh
  pub stripe : length s ≡ size sh
  pub columns : ¬ Beyond sh.n lost
  pub within : wanted < sh.n
  pub apart : ¬ Twice lost
  pub buffer : column_length sh ≤ room

module _ (sh : Shape) (s : List ℕ) (lost : Losses) (wanted room : ℕ) where
  pub fill_rises : Rises 0 (fill_table sh s lost wanted room)
  unfolding shape_table stripe_table fill_table
  fill_rises = omega arith

  pub fill_done : First (fill_table sh s lost wanted room) 0 → FillGood sh s lost wanted room
  unfolding fill_table
  fill_done h =
      let (good, len, more) = stripe_clear sh s _ h in
      let six = first_clear 5 more in let seven = first_clear 6 six.1 in let eight = first_clear 7 seven.1 in record {
        shape = good;
        stripe = len;
        columns = λ z. six.0 (inl z);
        within = (Dec.not-not (dec_lt wanted sh.n)).0 (λ n. six.0 (inr (omega arith)));
        apart = seven.0;
        buffer = omega (arith, eight.0);
      }

  -- past the refusals none applies
  pub fill_passed : (a : Answer) → First (fill_table sh s lost wanted room) (number a) → a ≡ (Ok tt) → First (fill_table sh s lost wanted room) 0
  unfolding number
  fill_passed a h e = rw e at h

  pub fill_ready : Ready (fill_table sh s lost wanted room)
  unfolding fill_table number refusal_number
  fill_ready = stripe_ready_rest sh s _ (λ g e. (
    (Err NoSuchPlace),
    refl,
    either? (beyond? sh.n lost) (dec_le sh.n wanted),
    λ p. (
      (Err SameColumn),
      refl,
      twice? lost,
      λ q.
          ((Err BadBuffer), refl, dec_lt room (column_length sh), λ r. tt),
    ),
  ))

-- ---- one, and some

module _ (sh : Shape) (s : List ℕ) (lost : Losses) (wanted : ℕ) (buffer : List ℕ) where
  filled_one : FillGood sh s lost wanted (length buffer) → (x y : List ℕ) → Filled sh s lost wanted buffer x → Filled sh s lost wanted buffer y → x ≡ y
  filled_one o x y u v = ext_get_or 0 x y (u.long ∙ sym v.long) (λ i hi. at i (omega (arith, u.long)) (dec_lt i (column_length sh)))
    where
      same : u.x ≡ v.x
      same = outer_one sh o.shape lost o.columns o.apart s u.x v.x o.stripe u.outer v.outer

      at : (i : ℕ) → i < length buffer → Dec (i < column_length sh) → get_or x i 0 ≡ get_or y i 0
      at i hi (yes lo) =
          let hm = good_m sh o.shape in let hw = good_w sh o.shape in
          let k : place sh (height_at sh i) 0 (offset_at sh i) ≡ i = omega (arith, place_in sh hm hw 0 i lo) in
          ap (λ (j : ℕ). get_or x j 0) (sym k)
          ∙ u.front (height_at sh i) (offset_at sh i) (height_at_lt sh hm hw i) (offset_at_lt sh hm hw i)
          ∙ ap (λ (z : List ℕ). byte sh z (offset_at sh i) (height_at sh i) wanted) same
          ∙ sym (v.front (height_at sh i) (offset_at sh i) (height_at_lt sh hm hw i) (offset_at_lt sh hm hw i))
          ∙ ap (λ (j : ℕ). get_or y j 0) k
      at i hi (no ge) = u.rest i (omega arith) hi ∙ sym (v.rest i (omega arith) hi)

  pub fill_one : (a b : Answer) (x y : List ℕ) → Fill sh s lost wanted buffer a x → Fill sh s lost wanted buffer b y → (a ≡ b) × (x ≡ y)
  fill_one = call_one (λ h x y u v. at (fill_done sh s lost wanted (length buffer) h) x y u v (lost? lost wanted))
    where
      at : FillGood sh s lost wanted (length buffer) → (x y : List ℕ) → Fills sh s lost wanted buffer x → Fills sh s lost wanted buffer y → Dec (Lost lost wanted) → x ≡ y
      at o x y u v (yes l) = filled_one o x y (u.gone l) (v.gone l)
      at o x y u v (no l) = u.survives l ∙ sym (v.survives l)

  pub fill_some : (a : Answer) × (x : List ℕ) × Fill sh s lost wanted buffer a x
  fill_some = call_some {T = fill_table sh s lost wanted (length buffer)} buffer (Fills sh s lost wanted buffer) (fill_ready sh s lost wanted (length buffer))
      (λ h. at (fill_done sh s lost wanted (length buffer) h) (lost? lost wanted))
    where
      filled : FillGood sh s lost wanted (length buffer) → (x : List ℕ) × Filled sh s lost wanted buffer x
      filled o =
          let (y, out) = outer_some sh o.shape lost o.columns o.apart s o.stripe in
          let f : ℕ → ℕ = λ i. cond (ltb i (column_length sh)) (byte sh y (offset_at sh i) (height_at sh i) wanted) (get_or buffer i 0) in (
            listed (length buffer) f,
            record {
              x = y;
              outer = out;
              long = length_listed (length buffer) f;
              front = λ d t hd ht.
                  let k = front_lt sh d t hd ht in
                  get_or_listed (length buffer) f (place sh d 0 t) (omega (arith, o.buffer))
                  ∙ rw (lt-ltb (place sh d 0 t) (column_length sh) k, height_at_place sh d 0 t hd ht, offset_at_place sh d 0 t hd ht);
              rest = λ i lo hi. get_or_listed (length buffer) f i hi ∙ rw (le-ltb i (column_length sh) lo);
            },
          )

      at : FillGood sh s lost wanted (length buffer) → Dec (Lost lost wanted) → (x : List ℕ) × Fills sh s lost wanted buffer x
      at o (no n) = (buffer, record { gone = λ l. absurd (n l); survives = λ l. refl })
      at o (yes l) = let z = filled o in (z.0, record { gone = λ k. z.1; survives = λ n. absurd (n l) })

-- ---- either order

fill_like : (sh : Shape) (a b : ℕ) (s : List ℕ) (c room : ℕ) → Like (fill_table sh s (Two a b) c room) (fill_table sh s (Two b a) c room)
unfolding fill_table
fill_like sh a b s c room =
    like_append (stripe_table sh s) (stripe_table sh s) _ _ (stripe_like sh s s refl) (refl, (turn a b, turn b a), (refl, (sym, sym), (refl, Iff.rfl, tt)))
  where
    turn : (a b : ℕ) → Beyond sh.n (Two a b) ⊎ (sh.n ≤ c) → Beyond sh.n (Two b a) ⊎ (sh.n ≤ c)
    turn a b (inl z) = inl (⊎_swap z)
    turn a b (inr z) = inr z

pub fill_either : (sh : Shape) (a b : ℕ) (s : List ℕ) (c : ℕ) (buffer : List ℕ) (r : Answer) (x : List ℕ) → Fill sh s (Two a b) c buffer r x → Fill sh s (Two b a) c buffer r x
fill_either sh a b s c buffer r x p = record {
  answer = like_first (fill_table sh s (Two a b) c (length buffer)) (fill_table sh s (Two b a) c (length buffer)) (number r) (fill_like sh a b s c (length buffer)) p.answer;
  refused = p.refused;
  done = λ d. turned (fill_done sh s (Two a b) c (length buffer) (rw d at p.answer)).apart (p.done d);
}
  where
    turned : a ≢ b → Fills sh s (Two a b) c buffer x → Fills sh s (Two b a) c buffer x
    turned ne h = record {
      gone = λ l. let z = h.gone (⊎_swap l) in
          record { x = z.x; outer = outer_either sh a b ne s z.x z.outer; long = z.long; front = z.front; rest = z.rest };
      survives = λ l. h.survives (λ z. l (⊎_swap z));
    }
