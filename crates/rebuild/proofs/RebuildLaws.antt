-- Laws of rebuild: one outcome, and some; exactly when it is accepted; old bytes and the order of names have no say.
use mathlib.Core.Path.{◌≡◌, refl, sym, ap, ◌∙◌}
use mathlib.Core.Logic.Iff
use mathlib.Core.Logic.{◌↔◌, ◌≢◌, ◌⊎◌, inl, inr, ⊎_swap}
use mathlib.Core.List.{List}
use Prim.Native.Nat.{ℕ, ◌*◌}
use native.Mathlib.Omega.{arith}
use native.Mathlib.Decide.{dec_lt}
use lib.ListN.{length, replicate, length-replicate, get_or-replicate}
use lib.Seq.{ext_get_or}
use Rattle.shape.specs.declared.Shape.{Shape}
use Rattle.answer.specs.Answers.{Answer}
use Rattle.std.specs.Prelude.{Ok, Err}
use Rattle.answer.specs.declared.Refusal.TheVariants.{SmallWorkspace, NoSuchPlace, SameColumn, Disagree}
use Rattle.shape.specs.Place.{column_length}
use Rattle.answer.specs.Answers.{refusal_number, number, First, Rises}
use Rattle.shape.specs.Refusals.{shape_table, stripe_table}
use Rattle.answer.specs.Outcome.{Outcome}
use Rattle.answer.proofs.AnswersLaws.{number_apart, number_done, first_one, first_stop, first_pass, first_clear, first_split, Lacks, Like, like_append, like_first}
use Rattle.shape.proofs.GoodLaws.{stripe_pass, stripe_clear, stripe_like}
use Rattle.answer.proofs.OutcomeLaws.{Ready, ready_append, call_one, call_some}
use Rattle.shape.proofs.Ready.{stripe_ready_rest}
use Rattle.rule.specs.declared.Losses.{Losses}
use Rattle.rule.specs.declared.Losses.TheVariants.{Two}
use Rattle.rule.specs.Losses.{Beyond, Twice, Agrees, Solves, Disagrees}
use Rattle.rule.proofs.Reading.{beyond?, twice?}
use Rattle.rule.proofs.SolvesLaws.{agrees_sym, solves_across, solves_more, solves_one, solves?}
use Rattle.rebuild.specs.Rebuild.{rebuild_table, early_table, late_table, OtherwiseGood, Cleared, Rebuild}

module _ (sh : Shape) (lost : Losses) (s : List ℕ) (room : ℕ) where
  pub rebuild_rises : Rises 0 (rebuild_table sh lost s room)
  unfolding shape_table stripe_table early_table rebuild_table
  rebuild_rises = omega arith

  -- ---- the rows before 9, and 9

  -- what they refuse the call is refused for
  pub early_refused : (k : ℕ) → First (early_table sh lost s room) k → k ≢ 0 → First (rebuild_table sh lost s room) k
  unfolding rebuild_table
  early_refused k h ne = first_stop (early_table sh lost s room) (late_table sh lost s) k h ne

  -- they refuse nothing exactly where the call is otherwise good
  pub early_good : First (early_table sh lost s room) 0 → OtherwiseGood sh lost s room
  unfolding early_table
  early_good h =
      let (good, len, more) = stripe_clear sh s _ h in
      let five = first_clear 4 more in let six = first_clear 5 five.1 in let seven = first_clear 6 six.1 in
      record { shape = good; stripe = len; workspace = omega (arith, five.0); columns = six.0; apart = seven.0 }

  early_pass : OtherwiseGood sh lost s room → First (early_table sh lost s room) 0
  unfolding early_table
  early_pass o = stripe_pass sh s _ 0 o.shape o.stripe (inr ((λ z. omega (arith, o.workspace)), inr (o.columns, inr (o.apart, refl))))

  early_lacks : (k : ℕ) → (k ≡ 0) ⊎ (k ≡ 9) → Lacks k (early_table sh lost s room)
  unfolding shape_table stripe_table early_table
  early_lacks k (inl e) = omega arith
  early_lacks k (inr e) = omega arith

  -- where the table gives 0 or 9 the call is otherwise good, and row 9 decides
  rows_passed : (k : ℕ) → (k ≡ 0) ⊎ (k ≡ 9) → First (rebuild_table sh lost s room) k → OtherwiseGood sh lost s room × First (late_table sh lost s) k
  unfolding rebuild_table
  rows_passed k is h = let z = first_split (early_table sh lost s room) (late_table sh lost s) k (early_lacks k is) h in (early_good z.0, z.1)

  -- and where the call is otherwise good row 9 alone is left
  rows_pass : (k : ℕ) → OtherwiseGood sh lost s room → First (late_table sh lost s) k → First (rebuild_table sh lost s room) k
  unfolding rebuild_table
  rows_pass k o h = first_pass (early_table sh lost s room) (late_table sh lost s) k (early_lacks 0 (inl refl)) (early_pass o) h

  -- so what is refused before the survivors are asked leaves the stripe, and else they decide
  pub early_outcome : (k : ℕ) → First (early_table sh lost s room) k → k ≢ 0 → Outcome (rebuild_table sh lost s room) s (Solves sh lost s) k s
  early_outcome k h ne = record { answer = early_refused k h ne; refused = λ z. refl; done = λ z. absurd (ne z) }

  pub late_outcome : (k : ℕ) (x : List ℕ) → OtherwiseGood sh lost s room → Outcome (late_table sh lost s) s (Solves sh lost s) k x
      → Outcome (rebuild_table sh lost s room) s (Solves sh lost s) k x
  late_outcome k x o h = record { answer = rows_pass k o h.answer; refused = h.refused; done = h.done }

  pub rebuild_accepted : OtherwiseGood sh lost s room → (x : List ℕ) → Solves sh lost s x → First (rebuild_table sh lost s room) 0
  rebuild_accepted o x sol = rows_pass 0 o (inr ((λ h. h x sol), refl))

  pub rebuild_done : First (rebuild_table sh lost s room) 0 → OtherwiseGood sh lost s room
  rebuild_done h = (rows_passed 0 (inl refl) h).0

  -- ---- one, and some

  pub rebuild_one : (a b : Answer) (x y u v : List ℕ) → Rebuild sh lost s room a x u → Rebuild sh lost s room b y v → (a ≡ b) × (x ≡ y) × (u ≡ v)
  rebuild_one a b x y u v p q =
      let (e, f) = call_one (λ h x y i j. let o = rebuild_done h in solves_one sh o.shape lost o.columns o.apart s o.stripe x y i j)
      a b x y p.outcome q.outcome in
      (e, f, cleared_one p.cleared q.cleared)
    where
      cleared_one : Cleared room u → Cleared room v → u ≡ v
      cleared_one c d = ext_get_or 0 u v (c.long ∙ sym d.long) (λ i h. c.zero i (omega (arith, c.long)) ∙ sym (d.zero i (omega (arith, c.long))))

  early_ready : Ready (early_table sh lost s room)
  unfolding early_table number refusal_number
  early_ready = stripe_ready_rest sh s _ (λ g e. (
    (Err SmallWorkspace),
    refl,
    dec_lt room (2 * column_length sh),
    λ p. ((Err NoSuchPlace), refl, beyond? sh.n lost, λ q. ((Err SameColumn), refl, twice? lost, λ r. tt)),
  ))

  pub rebuild_some : (a : Answer) × (x u : List ℕ) × Rebuild sh lost s room a x u
  unfolding rebuild_table number refusal_number
  rebuild_some =
      let (a, x, h) = call_some {T = rebuild_table sh lost s room} s (Solves sh lost s) (ready_append (early_table sh lost s room) (late_table sh lost s) early_ready (λ h.
      let o = early_good h in ((Err Disagree), refl, none (solves? sh o.shape lost o.columns o.apart s o.stripe), λ t. tt))) (λ h.
      let (o, nine) = rows_passed 0 (inl refl) h in found (solves? sh o.shape lost o.columns o.apart s o.stripe) (first_clear 8 nine).0) in
      (a, x, replicate room 0, record { outcome = h; cleared = record { long = length-replicate room 0; zero = λ i l. get_or-replicate room i 0 0 l } })
    where
      none : Dec ((x : List ℕ) × Solves sh lost s x) → Dec (Disagrees sh lost s)
      none (yes p) = no (λ f. f p.0 p.1)
      none (no p) = yes (λ x q. p (x, q))

      found : Dec ((x : List ℕ) × Solves sh lost s x) → ¬ Disagrees sh lost s → (x : List ℕ) × Solves sh lost s x
      found (yes p) n = p
      found (no p) n = absurd (n (λ x q. p (x, q)))

  -- ---- exactly

  module _ (a : Answer) (x u : List ℕ) (p : Rebuild sh lost s room a x u) where
    pub rebuild_otherwise : (a ≡ (Ok tt)) ⊎ (a ≡ (Err Disagree)) → OtherwiseGood sh lost s room
    unfolding number refusal_number
    rebuild_otherwise is = (rows_passed (number a) (at is) p.outcome.answer).0
      where
        at : (a ≡ (Ok tt)) ⊎ (a ≡ (Err Disagree)) → (number a ≡ 0) ⊎ (number a ≡ 9)
        at (inl e) = inl (ap number e)
        at (inr e) = inr (ap number e)

    -- row 9 decides a call that is otherwise good
    pub rebuild_decides : OtherwiseGood sh lost s room → (Disagrees sh lost s × (a ≡ (Err Disagree))) ⊎ ((¬ Disagrees sh lost s) × (a ≡ (Ok tt)))
    unfolding number refusal_number
    rebuild_decides o = at (solves? sh o.shape lost o.columns o.apart s o.stripe)
      where
        is : (b : Answer) → First (late_table sh lost s) (number b) → a ≡ b
        is b h = number_apart a b (first_one (rebuild_table sh lost s room) (number a) (number b) p.outcome.answer (rows_pass (number b) o h))

        at : Dec ((x : List ℕ) × Solves sh lost s x) → (Disagrees sh lost s × (a ≡ (Err Disagree))) ⊎ ((¬ Disagrees sh lost s) × (a ≡ (Ok tt)))
        at (yes z) = let n : ¬ Disagrees sh lost s = λ f. f z.0 z.1 in inr (n, is (Ok tt) (inr (n, refl)))
        at (no z) = let d : Disagrees sh lost s = λ y q. z (y, q) in inl (d, is (Err Disagree) (inl (d, refl)))

    -- what solves is what is left
    pub rebuild_solves : OtherwiseGood sh lost s room → (y : List ℕ) → Solves sh lost s y → (a ≡ (Ok tt)) × (x ≡ y)
    rebuild_solves o y sol = at (rebuild_decides o)
      where
        at : (Disagrees sh lost s × (a ≡ (Err Disagree))) ⊎ ((¬ Disagrees sh lost s) × (a ≡ (Ok tt))) → (a ≡ (Ok tt)) × (x ≡ y)
        at (inl z) = absurd (z.0 y sol)
        at (inr z) = (z.1, solves_one sh o.shape lost o.columns o.apart s o.stripe x y (p.outcome.done ((number_done a).1 z.1)) sol)

-- ---- old bytes of the lost columns, and the order of the names

-- two calls whose tables come to the same, and which the same stripes solve
module _ (sh : Shape) (lost lost₂ : Losses) (s s₂ : List ℕ) (room : ℕ) (len : length s ≡ length s₂)
    (beyond : Beyond sh.n lost ↔ Beyond sh.n lost₂) (twice : Twice lost ↔ Twice lost₂)
    (solves : (x : List ℕ) → Solves sh lost s x ↔ Solves sh lost₂ s₂ x) where
  early_like : Like (early_table sh lost s room) (early_table sh lost₂ s₂ room)
  unfolding early_table
  early_like = like_append (stripe_table sh s) (stripe_table sh s₂) _ _ (stripe_like sh s s₂ len) (refl, Iff.rfl, (refl, beyond, (refl, twice, tt)))

  pub rebuild_like : Like (rebuild_table sh lost s room) (rebuild_table sh lost₂ s₂ room)
  unfolding rebuild_table
  rebuild_like = like_append (early_table sh lost s room) (early_table sh lost₂ s₂ room) (late_table sh lost s) (late_table sh lost₂ s₂) early_like
      (refl, ((λ h x q. h x ((solves x).1 q)), (λ h x q. h x ((solves x).0 q))), tt)

module _ (sh : Shape) (lost : Losses) (s s₂ : List ℕ) (len : length s ≡ length s₂) (agree : Agrees sh lost s s₂) where
  across : (x : List ℕ) → Solves sh lost s x ↔ Solves sh lost s₂ x
  across x = (solves_across sh lost s s₂ x len agree, solves_across sh lost s₂ s x (sym len) (agrees_sym sh lost s s₂ agree))

  pub rebuild_old_bytes : (room : ℕ) (a b : Answer) (x y u v : List ℕ) → Rebuild sh lost s room a x u → Rebuild sh lost s₂ room b y v
      → (a ≡ b) × (a ≡ (Ok tt) → x ≡ y) × (a ≢ (Ok tt) → (x ≡ s) × (y ≡ s₂))
  rebuild_old_bytes room a b x y u v p q = (
    e,
    (λ d. sym (rebuild_solves sh lost s₂ room b y v q (rebuild_otherwise sh lost s₂ room b y v q (inl (sym e ∙ d))) x
        ((across x).0 (p.outcome.done ((number_done a).1 d)))).1),
    (λ n. (p.outcome.refused (λ z. n ((number_done a).0 z)), q.outcome.refused (λ z. n (e ∙ (number_done b).0 z)))),
  )
    where
      e : a ≡ b
      e = number_apart a b (first_one (rebuild_table sh lost s₂ room) (number a) (number b)
          (like_first (rebuild_table sh lost s room) (rebuild_table sh lost s₂ room) (number a) (rebuild_like sh lost lost s s₂ room len Iff.rfl Iff.rfl across) p.outcome.answer) q.outcome.answer)

pub rebuild_either : (sh : Shape) (a b : ℕ) (s : List ℕ) (room : ℕ) (r : Answer) (x u : List ℕ) → Rebuild sh (Two a b) s room r x u → Rebuild sh (Two b a) s room r x u
rebuild_either sh a b s room r x u p = record {
  outcome = record {
    answer = like_first (rebuild_table sh (Two a b) s room) (rebuild_table sh (Two b a) s room) (number r)
        (rebuild_like sh (Two a b) (Two b a) s s room refl (⊎_swap, ⊎_swap) (sym, sym) turned) p.outcome.answer;
    refused = p.outcome.refused;
    done = λ d. (turned x).0 (p.outcome.done d);
  };
  cleared = p.cleared;
}
  where
    turned : (x : List ℕ) → Solves sh (Two a b) s x ↔ Solves sh (Two b a) s x
    turned x = (solves_more sh (Two a b) (Two b a) s x (λ c z. ⊎_swap z), solves_more sh (Two b a) (Two a b) s x (λ c z. ⊎_swap z))
