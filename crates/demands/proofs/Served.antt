-- What a served request comes to: one reply and one content of the client's buffers, whatever the workspace held; the workspace as it was, or clear;
-- nothing changed where the answer is a refusal.
use mathlib.Core.Path.{◌≡◌, refl, sym, ap, ◌∙◌, subst, fun_ext}
use mathlib.Core.Logic.{◌≢◌, ◌⊎◌, inl, inr}
use mathlib.Core.List.{List}
use Prim.Native.Nat.{ℕ}
use native.Mathlib.Decide.{ℕ_discrete}
use lib.ListN.{length, drop}
use Rattle.std.specs.Prelude.{Ok}
use Rattle.answer.specs.Answers.{Answer, number}
use Rattle.answer.proofs.AnswersLaws.{number_done}
use Rattle.rebuild.specs.Rebuild.{Cleared, Rebuild}
use Rattle.job.specs.declared.State.{State}
use Rattle.job.specs.declared.Turn.{Turn}
use Rattle.job.specs.Step.{answer_on, Stepped}
use Rattle.job.proofs.StepLaws.{step_refused}
use Rattle.demands.specs.OneAnswer.{OneResult, OneOutcome}
use Rattle.demands.specs.Demands.{RefusedChangesNothing, RefusedStep}
use Rattle.demands.specs.Sequences.{Buffers, Request, Reply, Looks, OnlyStripe, Writes, OnlyAnswer, Puts, Served, encode, check, locate, small_write, raw_store, rebuild, read_column, fill, choose, prices, stock, job, answered, checked, located, handed, priced, stocked, stepped}
use Rattle.demands.proofs.OneAnswer.{one_encode, one_check, one_locate, one_small_write, one_raw_store, one_rebuild, one_column, one_fill, one_choose, one_prices, one_stock, one_step}

-- ---- two outcomes of one request

-- f as it was but at k, and g too
module _ {A : Type 0} (k : ℕ) (h f g : ℕ → A) (p : (j : ℕ) → j ≢ k → f j ≡ h j) where
  but_one : ((j : ℕ) → j ≢ k → g j ≡ h j) → f k ≡ g k → f ≡ g
  but_one q e = fun_ext (λ j. at j (ℕ_discrete j k))
    where
      at : (j : ℕ) → Dec (j ≡ k) → f j ≡ g j
      at j (yes z) = ap f z ∙ e ∙ sym (ap g z)
      at j (no z) = p j z ∙ sym (q j z)

  -- and where it is as it was at k too, it is as it was
  all_kept : f k ≡ h k → f ≡ h
  all_kept e = fun_ext (λ j. at j (ℕ_discrete j k))
    where
      at : (j : ℕ) → Dec (j ≡ k) → f j ≡ h j
      at j (yes z) = ap f z ∙ e ∙ sym (ap h z)
      at j (no z) = p j z

buffers : (own own₂ : Buffers) → own.stripes ≡ own₂.stripes → own.symbols ≡ own₂.symbols → own.answers ≡ own₂.answers
    → own.inputs ≡ own₂.inputs → own.state ≡ own₂.state → own ≡ own₂
buffers own own₂ p q r s t = λ i. record { stripes = p i; symbols = q i; answers = r i; inputs = s i; state = t i }

module _ (k : ℕ) (own own' own₂ : Buffers) where
  same_stripes : (st st₂ : State) → OnlyStripe k st own own' → OnlyStripe k st₂ own own₂ → own'.stripes k ≡ own₂.stripes k → st ≡ st₂ → own' ≡ own₂
  same_stripes st st₂ p q e f = buffers own' own₂ (but_one k own.stripes own'.stripes own₂.stripes p.stripes q.stripes e)
      (p.symbols ∙ sym q.symbols) (p.answers ∙ sym q.answers) (p.inputs ∙ sym q.inputs) (p.state ∙ f ∙ sym q.state)

  same_answers : OnlyAnswer k own own' → OnlyAnswer k own own₂ → own'.answers k ≡ own₂.answers k → own' ≡ own₂
  same_answers p q e = buffers own' own₂ (p.stripes ∙ sym q.stripes) (p.symbols ∙ sym q.symbols)
      (but_one k own.answers own'.answers own₂.answers p.answers q.answers e) (p.inputs ∙ sym q.inputs) (p.state ∙ sym q.state)

named : {A : Type 0} (f : A → Reply) {r q : Reply} {a b : A} → r ≡ f a → q ≡ f b → a ≡ b → r ≡ q
named f p q e = p ∙ ap f e ∙ sym q

module _ (own : Buffers) (w w₂ : List ℕ) (r r₂ : Reply) (own' own₂ : Buffers) (w' w₂' : List ℕ) where
  Once : Type 0
  Once = (r ≡ r₂) × (own' ≡ own₂)

  looks_once : {A : Type 0} (reply : A → Reply) (Contract : A → Type 0) → OneResult Contract
      → Looks reply Contract own w r own' w' → Looks reply Contract own w₂ r₂ own₂ w₂' → Once
  unfolding Once
  looks_once reply Contract one (a, e, h, k, i) (b, f, g, l, j) = (named reply e f (one a b h g), k ∙ sym l)

  writes_once : (k : ℕ) (Contract : Answer → List ℕ → Type 0) → OneOutcome Contract
      → Writes k Contract own w r own' w' → Writes k Contract own w₂ r₂ own₂ w₂' → Once
  unfolding Once
  writes_once k Contract one (a, e, h, o, i) (b, f, g, q, j) =
      let z = one a b _ _ h g in (named answered e f z.0, same_stripes k own own' own₂ _ _ o q z.1 refl)

  puts_once : (k : ℕ) (Contract : Answer → List ℕ → Type 0) → OneOutcome Contract
      → Puts k Contract own w r own' w' → Puts k Contract own w₂ r₂ own₂ w₂' → Once
  unfolding Once
  puts_once k Contract one (a, e, h, o, i) (b, f, g, q, j) =
      let z = one a b _ _ h g in (named answered e f z.0, same_answers k own own' own₂ o q z.1)

  pub served_once : (q : Request) → length w ≡ length w₂ → Served q own w r own' w' → Served q own w₂ r₂ own₂ w₂' → (r ≡ r₂) × (own' ≡ own₂)
  unfolding Once
  served_once (encode sh s) len p q = writes_once s _ (one_encode sh (own.stripes s)) p q
  served_once (check sh s) len p q = looks_once checked _ (one_check sh (own.stripes s)) p q
  served_once (locate sh s) len p q = looks_once located _ (one_locate sh (own.stripes s)) p q
  served_once (small_write sh s c i x) len p q = writes_once s _ (one_small_write sh (own.stripes s) c i (own.symbols x)) p q
  served_once (raw_store sh s c i x) len p q = writes_once s _ (one_raw_store sh (own.stripes s) c i (own.symbols x)) p q
  served_once (rebuild sh lost s) len (a, e, h, o) (b, f, g, u) =
      let g' : Rebuild sh lost (own.stripes s) (length w) b (own₂.stripes s) w₂' =
      subst (λ (n : ℕ). Rebuild sh lost (own.stripes s) n b (own₂.stripes s) w₂') (sym len) g in
      let z = one_rebuild sh lost (own.stripes s) (length w) a b _ _ w' w₂' h g' in (named answered e f z.0, same_stripes s own own' own₂ _ _ o u z.1 refl)
  served_once (read_column sh s c) len p q = looks_once handed _ (one_column sh (own.stripes s) c) p q
  served_once (fill sh s lost c b) len p q = puts_once b _ (one_fill sh (own.stripes s) lost c (own.answers b)) p q
  served_once (choose sh s lost c b) len p q = looks_once handed _ (one_choose sh (own.stripes s) lost c (own.answers b)) p q
  served_once (prices sh) len p q = looks_once priced _ (one_prices sh) p q
  served_once (stock i) len p q = looks_once stocked _ (one_stock i) p q
  served_once (job i from s) len (a, e, h, o) (b, f, g, u) =
      let g' : Stepped own.state (drop from (own.inputs i)) (own.stripes s) (length w) b (own₂.stripes s) w₂' =
      subst (λ (n : ℕ). Stepped own.state (drop from (own.inputs i)) (own.stripes s) n b (own₂.stripes s) w₂') (sym len) g in
      let z = one_step own.state (drop from (own.inputs i)) (own.stripes s) (length w) a b _ _ w' w₂' h g' in
      (named stepped e f z.0, same_stripes s own own' own₂ _ _ o u z.1 (ap (λ (j : Turn). j.state) z.0))

-- ---- the workspace

pub served_work : (q : Request) (own : Buffers) (w : List ℕ) (r : Reply) (own' : Buffers) (w' : List ℕ) → Served q own w r own' w'
    → (w' ≡ w) ⊎ Cleared (length w) w'
served_work (encode sh s) own w r own' w' p = inl p.4
served_work (check sh s) own w r own' w' p = inl p.4
served_work (locate sh s) own w r own' w' p = inl p.4
served_work (small_write sh s c i x) own w r own' w' p = inl p.4
served_work (raw_store sh s c i x) own w r own' w' p = inl p.4
served_work (rebuild sh lost s) own w r own' w' p = inr p.2.cleared
served_work (read_column sh s c) own w r own' w' p = inl p.4
served_work (fill sh s lost c b) own w r own' w' p = inl p.4
served_work (choose sh s lost c b) own w r own' w' p = inl p.4
served_work (prices sh) own w r own' w' p = inl p.4
served_work (stock i) own w r own' w' p = inl p.4
served_work (job i from s) own w r own' w' p = inr p.2.cleared

-- ---- refused

answer_in : Reply → Answer
answer_in (answered a) = a
answer_in (checked c) = Ok tt
answer_in (located l) = Ok tt
answer_in (handed p) = Ok tt
answer_in (priced p) = Ok tt
answer_in (stocked s) = Ok tt
answer_in (stepped j) = Ok tt

module _ (own own' : Buffers) (k : ℕ) (a b : Answer) (ne : a ≢ Ok tt) (e : answered a ≡ answered b) where
  refused_too : number b ≢ 0
  unfolding answer_in
  refused_too z = ne (ap answer_in e ∙ (number_done b).0 z)

  stripe_kept : (number b ≢ 0 → own'.stripes k ≡ own.stripes k) → OnlyStripe k own.state own own' → own' ≡ own
  stripe_kept f o =
      buffers own' own (all_kept k own.stripes own'.stripes own.stripes o.stripes (f refused_too)) o.symbols o.answers o.inputs o.state

  answer_kept : (number b ≢ 0 → own'.answers k ≡ own.answers k) → OnlyAnswer k own own' → own' ≡ own
  answer_kept f o =
      buffers own' own o.stripes o.symbols (all_kept k own.answers own'.answers own.answers o.answers (f refused_too)) o.inputs o.state

pub refused_changes_nothing : RefusedChangesNothing
unfolding answer_in
refused_changes_nothing (encode sh s) own own' w w' a n (b, e, h, o, i) = stripe_kept own own' s a b n e h.refused o
refused_changes_nothing (check sh s) own own' w w' a n p = p.3
refused_changes_nothing (locate sh s) own own' w w' a n p = p.3
refused_changes_nothing (small_write sh s c r x) own own' w w' a n (b, e, h, o, i) = stripe_kept own own' s a b n e h.refused o
refused_changes_nothing (raw_store sh s c r x) own own' w w' a n (b, e, h, o, i) = stripe_kept own own' s a b n e h.refused o
refused_changes_nothing (rebuild sh lost s) own own' w w' a n (b, e, h, o) = stripe_kept own own' s a b n e h.outcome.refused o
refused_changes_nothing (read_column sh s c) own own' w w' a n p = p.3
refused_changes_nothing (fill sh s lost c x) own own' w w' a n (b, e, h, o, i) = answer_kept own own' x a b n e h.refused o
refused_changes_nothing (choose sh s lost c x) own own' w w' a n p = p.3
refused_changes_nothing (prices sh) own own' w w' a n p = p.3
refused_changes_nothing (stock r) own own' w w' a n p = p.3
refused_changes_nothing (job i from s) own own' w w' a n (b, e, h, o) = absurd (n (ap answer_in e))

-- the step in a reply, or else j
step_in : Turn → Reply → Turn
step_in j (answered a) = j
step_in j (checked c) = j
step_in j (located l) = j
step_in j (handed p) = j
step_in j (priced p) = j
step_in j (stocked s) = j
step_in j (stepped k) = k

pub refused_step : RefusedStep
unfolding step_in
refused_step i from s own own' w w' r n (j, e, h, o) =
    let same : r ≡ j = ap (step_in r) e in
    let (held, kept) = step_refused own.state (drop from (own.inputs i)) (own.stripes s) (length w) j (own'.stripes s) w' h
    (λ z. n (ap (λ (j : Turn). answer_on j.line) same ∙ z)) in (
      all_kept s own.stripes own'.stripes own.stripes o.stripes kept,
      o.symbols,
      o.answers,
      o.inputs,
      ap (λ (st : State). st.held) o.state ∙ held,
    )
