-- Some answer: every request of every client can be served, by the law of its call's floor.
use mathlib.Core.Path.{◌≡◌, refl, sym, subst}
use mathlib.Core.Logic.{◌≢◌}
use mathlib.Core.Bool.{cond}
use mathlib.Core.List.{List}
use Prim.Native.Nat.{ℕ}
use lib.ListN.{length, drop}
use lib.Dec.{eqb}
use borrow.Author.Tests.{eq-eqb, ne_eqb}
use Rattle.answer.specs.Answers.{Answer}
use Rattle.stock.proofs.PricesLaws.{prices_some}
use Rattle.stock.proofs.StockLaws.{stock_some}
use Rattle.encoding.proofs.EncodeLaws.{encode_some}
use Rattle.checking.proofs.CheckLaws.{check_some}
use Rattle.locating.proofs.LocateLaws.{locate_some}
use Rattle.writing.proofs.WriteLaws.{write_some}
use Rattle.storing.proofs.StoreLaws.{store_some}
use Rattle.handing.proofs.ColumnLaws.{column_some}
use Rattle.rebuild.proofs.RebuildLaws.{rebuild_some}
use Rattle.filling.proofs.FillLaws.{fill_some}
use Rattle.filling.proofs.ChooseLaws.{choose_some}
use Rattle.job.specs.declared.State.{State}
use Rattle.job.proofs.StepLaws.{step_some}
use Rattle.demands.specs.OneAnswer.{SomeAnswer}
use Rattle.demands.specs.Sequences.{Buffers, Request, Reply, Looks, OnlyStripe, Writes, Puts, Served, encode, check, locate, small_write, raw_store, rebuild, read_column, fill, choose, prices, stock, job, answered, checked, located, handed, priced, stocked, stepped}

-- f with x at k
put : {A : Type 0} → ℕ → A → (ℕ → A) → ℕ → A
put k x f j = cond (eqb j k) x (f j)

put_here : {A : Type 0} (k : ℕ) (x : A) (f : ℕ → A) → put k x f k ≡ x
unfolding put
put_here k x f = rw (eq-eqb k k refl)

put_there : {A : Type 0} (k : ℕ) (x : A) (f : ℕ → A) (j : ℕ) → j ≢ k → put k x f j ≡ f j
unfolding put
put_there k x f j h = rw (ne_eqb j k h)

abbrev with_stripe : ℕ → List ℕ → State → Buffers → Buffers
with_stripe k x st own = record { stripes = put k x own.stripes; symbols = own.symbols; answers = own.answers; inputs = own.inputs; state = st }

abbrev with_answer : ℕ → List ℕ → Buffers → Buffers
with_answer k x own = record { stripes = own.stripes; symbols = own.symbols; answers = put k x own.answers; inputs = own.inputs; state = own.state }

abbrev Outcome : Request → Buffers → List ℕ → Type 0
Outcome q own w = (r : Reply) × (own' : Buffers) × (w' : List ℕ) × Served q own w r own' w'

module _ (own : Buffers) (w : List ℕ) where
  only_stripe : (k : ℕ) (x : List ℕ) (st : State) → OnlyStripe k st own (with_stripe k x st own)
  only_stripe k x st = record { stripes = put_there k x own.stripes; symbols = refl; answers = refl; inputs = refl; state = refl }

  looked : {A : Type 0} (reply : A → Reply) (Contract : A → Type 0) → (a : A) × Contract a → (r : Reply) × (own' : Buffers) × (w' : List ℕ) × Looks reply Contract own w r own' w'
  looked reply Contract (a, h) = (reply a, own, w, (a, refl, h, refl, refl))

  written : (k : ℕ) (Contract : Answer → List ℕ → Type 0) → (a : Answer) × (x : List ℕ) × Contract a x
      → (r : Reply) × (own' : Buffers) × (w' : List ℕ) × Writes k Contract own w r own' w'
  written k Contract (a, x, h) = (
    answered a,
    with_stripe k x own.state own,
    w,
    (a, refl, subst (Contract a) (sym (put_here k x own.stripes)) h, only_stripe k x own.state, refl),
  )

  filled : (k : ℕ) (Contract : Answer → List ℕ → Type 0) → (a : Answer) × (x : List ℕ) × Contract a x
      → (r : Reply) × (own' : Buffers) × (w' : List ℕ) × Puts k Contract own w r own' w'
  filled k Contract (a, x, h) = (
    answered a,
    with_answer k x own,
    w,
    (
      a,
      refl,
      subst (Contract a) (sym (put_here k x own.answers)) h,
      record { stripes = refl; symbols = refl; answers = put_there k x own.answers; inputs = refl; state = refl },
      refl,
    ),
  )

  -- a call that is lent the workspace too
  abbrev Staged : {A : Type 0} → ℕ → (A → Reply) → (A → State) → (A → List ℕ → List ℕ → Type 0) → Reply → Buffers → List ℕ → Type 0
  Staged {A} k reply st Contract r own' w' = (a : A) × (r ≡ reply a) × Contract a (own'.stripes k) w' × OnlyStripe k (st a) own own'

  staged : {A : Type 0} (k : ℕ) (reply : A → Reply) (st : A → State) (Contract : A → List ℕ → List ℕ → Type 0) → (a : A) × (x u : List ℕ) × Contract a x u
      → (r : Reply) × (own' : Buffers) × (w' : List ℕ) × Staged k reply st Contract r own' w'
  staged k reply st Contract (a, x, u, h) = (
    reply a,
    with_stripe k x (st a) own,
    u,
    (a, refl, subst (λ (y : List ℕ). Contract a y u) (sym (put_here k x own.stripes)) h, only_stripe k x (st a)),
  )

  served : (q : Request) → Outcome q own w
  served (encode sh s) = written s _ (encode_some sh (own.stripes s))
  served (check sh s) = looked checked _ (check_some sh (own.stripes s))
  served (locate sh s) = looked located _ (locate_some sh (own.stripes s))
  served (small_write sh s c i x) = written s _ (write_some sh (own.stripes s) c i (own.symbols x))
  served (raw_store sh s c i x) = written s _ (store_some sh (own.stripes s) c i (own.symbols x))
  served (rebuild sh lost s) = staged s answered (λ a. own.state) _ (rebuild_some sh lost (own.stripes s) (length w))
  served (read_column sh s c) = looked handed _ (column_some sh (own.stripes s) c)
  served (fill sh s lost c b) = filled b _ (fill_some sh (own.stripes s) lost c (own.answers b))
  served (choose sh s lost c b) = looked handed _ (choose_some sh (own.stripes s) lost c (own.answers b))
  served (prices sh) = looked priced _ (prices_some sh)
  served (stock i) = looked stocked _ (stock_some i)
  served (job i from s) = staged s stepped (λ j. j.state) _ (step_some own.state (drop from (own.inputs i)) (own.stripes s) (length w))

pub some_answer : SomeAnswer
some_answer c q u =
    let (r, own, w, h) = served (u.own c) u.work q in (
      record { client = c; request = q; reply = r; after = record { own = put c own u.own; work = w } },
      refl,
      refl,
      record {
        served = subst (λ (o : Buffers). Served q (u.own c) u.work r o w) (sym (put_here c own u.own)) h;
        others = put_there c own u.own;
      },
    )
