-- Laws of a rebuild that is otherwise good: the lost columns staged are those of one stripe, and the survivors agree exactly where that stripe obeys the rule.
-- To cite: mend_good, mend_led, mend_stageable, mend_patchable, mend_in_order, mend_disagree, mend_done.
use mathlib.Core.Path.{◌≡◌, refl, sym, ap, ◌∙◌, subst}
use mathlib.Core.Logic.{inl, inr, ⊎_elim}
use mathlib.Core.Bool.{true, false}
use mathlib.Core.List.{List}
use Prim.Native.Nat.{ℕ, zero, suc, ◌*◌, ◌≤◌, ◌<◌}
use native.Mathlib.Omega.{arith}
use native.Mathlib.Decide.{ℕ_discrete}
use lib.ListN.{length}
use Rattle.shape.specs.declared.Shape.{Shape}
use Rattle.shape.specs.Good.{Good, size}
use Rattle.shape.specs.Place.{byte}
use Rattle.shape.specs.Step.{left, right}
use Rattle.answer.specs.Outcome.{Outcome}
use Rattle.shape.proofs.GoodLaws.{good_m, good_w, good_room, good_wide}
use Rattle.shape.proofs.StepLaws.{Reach}
use Rattle.shape.proofs.PlaceLaws.{byte_ext}
use Rattle.rule.specs.declared.Losses.{Losses}
use Rattle.rule.specs.Rule.{chain, differs, Obeys}
use Rattle.rule.specs.Losses.{Beyond, Twice, Agrees, Bytes, Solves, Disagrees}
use Rattle.rule.specs.Outer.{walk, reading, Used, Outer}
use Rattle.rule.proofs.ChainLaws.{chain_cong}
use Rattle.rule.proofs.RuleLaws.{obeys_differs}
use Rattle.rule.proofs.Reading.{reading_order, reading_lost, reading_used}
use Rattle.rule.proofs.Solve.{Pair}
use Rattle.rule.proofs.OuterLaws.{outer_one, outer_some}
use Rattle.rule.proofs.SolvesLaws.{solves_outer}
use Rattle.solving.specs.declared.Gone.{Gone}
use Rattle.listing.specs.Places.{Table}
use Rattle.solving.specs.Outer.{column_of, chain_of, Solved}
use Rattle.agreeing.specs.Agreeing.{patched, Uses, Agreed, Patchable, InOrder}
use Rattle.agreeing.proofs.AgreeingLaws.{patched_first, patched_second, patched_else, same_walk, uses?}
use Rattle.staging.specs.Reading.{Read, Led}
use Rattle.staging.specs.Staging.{Stageable, Staged}
use Rattle.committing.specs.Committing.{stores_in_all, Made}
use Rattle.rebuild.specs.Rebuild.{late_table, OtherwiseGood}
use Rattle.staging.proofs.StagingLaws.{spot_fits}
use Rattle.staging.proofs.ReadingLaws.{read_here, read_stageable, read_led, read_apart, read_staged}
use Rattle.committing.proofs.CommittingLaws.{made_all}

module _ (g : Gone) (lost : Losses) (r : Read g.shape lost g) (good : Good g.shape) (fit : ¬ Beyond g.shape.n lost) (apart : ¬ Twice lost) where
  -- what can be staged can be put in place
  pub read_patchable : (s out : List ℕ) → Stageable g s out → Patchable g s out
  read_patchable s out st = record { good = good; whole = st.whole; unlike = read_apart g lost r good fit apart; room = spot_fits g s out st }

  -- and is in order
  read_in_order : InOrder g
  read_in_order h = ⊎_elim (λ z. absurd (omega (arith, r.second_is, z.0))) pair (reading_order g.shape.m g.shape.n (good_wide g.shape good) lost fit apart)
    where
      pair : Pair g.shape.m g.shape.n (reading g.shape.m g.shape.n lost).0 (reading g.shape.m g.shape.n lost).1 (reading g.shape.m g.shape.n lost).2
          → (g.first < g.shape.n) × (2 * walk g.shape.n g.first g.second ≤ g.shape.n)
      pair p =
          let hf : g.first < g.shape.n = omega (arith, r.first_is, p.first_lt) in
          let reach : Reach g.shape.n g.first (reading g.shape.m g.shape.n lost).2 g.second =
          ⊎_elim (λ u. inl (omega (arith, r.first_is, r.second_is, u))) (λ u. inr (omega (arith, r.first_is, r.second_is, u))) p.walk in (
            hf,
            omega (arith, p.short, same_walk g.shape.n g.first g.second (reading g.shape.m g.shape.n lost).2 hf h (omega (arith, p.short, p.near)) reach),
          )

  -- the chains that are used are those of the rule
  uses_used : (p : ℕ) → Uses g p → Used g.shape.m g.shape.n lost p
  unfolding column_of chain_of
  uses_used p (zero, d, hs, hc, hd, e) =
      (reading_used g.shape.m g.shape.n (good_wide g.shape good) lost fit apart p).1
      (false, d, omega (arith, r.first_is), hd, e ∙ ap (λ (c : ℕ). left g.shape.n c d) r.first_is)
  uses_used p (suc zero, d, hs, hc, hd, e) =
      (reading_used g.shape.m g.shape.n (good_wide g.shape good) lost fit apart p).1
      (true, d, omega (arith, r.second_is), hd, e ∙ ap (λ (c : ℕ). right g.shape.n c d) r.second_is)
  uses_used p (suc (suc i), d, hs, hc, hd, e) = absurd (omega arith)

  -- x is the stripe that the outer-chain order solves, and its lost columns are in the buffer
  module _ (s x out : List ℕ) (len : length s ≡ size g.shape) (o : Outer g.shape lost s x)
      (staged : Staged g (λ side d t. byte g.shape x t d (column_of g side)) out) where
    -- then it is the stripe with these in place
    pub patched_outer : (d c t : ℕ) → d < g.shape.m → c < g.shape.n → t < g.shape.w → patched g s out t d c ≡ byte g.shape x t d c
    unfolding column_of
    patched_outer d c t hd hc ht = at (ℕ_discrete c g.first) (ℕ_discrete c g.second)
      where
        at : Dec (c ≡ g.first) → Dec (c ≡ g.second) → patched g s out t d c ≡ byte g.shape x t d c
        at (yes e) k = rw e (patched_first g s out d t ∙ staged 0 d (omega arith) (omega arith) hd t ht)
        at (no e) (yes f) = rw f (patched_second g s out d t (λ z. e (f ∙ sym z)) ∙ staged 1 d (omega arith) (omega arith) hd t ht)
        at (no e) (no f) =
            patched_else g s out d t c e f
            ∙ sym (o.agrees.same d c t hd hc ht (λ l.
            ⊎_elim (λ z. e (z ∙ sym r.first_is)) (λ z. f (z ∙ sym r.second_is)) ((reading_lost g.shape.m g.shape.n (good_wide g.shape good) lost fit apart c hc).0 l)))

    differs_is : (p t : ℕ) → p < g.shape.n → t < g.shape.w → chain g.shape.m g.shape.n (patched g s out t) p ≡ differs g.shape x p t
    unfolding differs
    differs_is p t hp ht =
        chain_cong g.shape.m g.shape.n (omega (arith, good_room g.shape good, good_m g.shape good)) p hp (good_m g.shape good)
        (patched g s out t) (byte g.shape x t) (λ d c hd hc. patched_outer d c t hd hc ht)

    agreed_obeys : Agreed g s out → Obeys g.shape x
    agreed_obeys a = (obeys_differs g.shape x).1 (λ p t hp ht. at p t hp ht (uses? g good p hp))
      where
        at : (p t : ℕ) → p < g.shape.n → t < g.shape.w → Dec (Uses g p) → differs g.shape x p t ≡ 0
        at p t hp ht (yes u) = o.holds p t (uses_used p u) ht
        at p t hp ht (no u) = sym (differs_is p t hp ht) ∙ a p hp u t ht

    -- where they agree, the stripe with these in place solves
    pub mended : Agreed g s out → (s' : List ℕ) → length s' ≡ length s → Bytes s'
        → ((d c t : ℕ) → d < g.shape.m → c < g.shape.n → t < g.shape.w → byte g.shape s' t d c ≡ patched g s out t d c) → Solves g.shape lost s s'
    mended a s' long bytes is =
        let e : x ≡ s' = byte_ext g.shape (good_m g.shape good) (good_w g.shape good) x s' (o.long ∙ len) (long ∙ len) (λ d c t hd hc ht.
        sym (patched_outer d c t hd hc ht) ∙ sym (is d c t hd hc ht)) in
        record { long = long; bytes = bytes; obeys = subst (Obeys g.shape) e (agreed_obeys a); agrees = subst (λ (z : List ℕ). Agrees g.shape lost s z) e o.agrees }

    -- where they do not, nothing does
    pub disagreed : ¬ Agreed g s out → Disagrees g.shape lost s
    disagreed n y sol = n (λ p hp u t ht. differs_is p t hp ht ∙ (obeys_differs g.shape x).0 (subst (Obeys g.shape) same sol.obeys) p t hp ht)
      where
        same : y ≡ x
        same = outer_one g.shape good lost fit apart s y x len (solves_outer g.shape good lost fit apart s y sol) o

-- ---- what `mend` does with a call that is otherwise good

module _ (sh : Shape) (lost : Losses) (s : List ℕ) (room : ℕ) (call : OtherwiseGood sh lost s room) (g : Gone) (read : Read sh lost g) where
  here : OtherwiseGood g.shape lost s room
  here = subst (λ (z : Shape). OtherwiseGood z lost s room) (sym read.shape_is) call

  r : Read g.shape lost g
  r = read_here sh lost g read

  pub mend_good : Good g.shape
  mend_good = here.shape

  -- the table of the shape is that of what is read
  pub mend_table : (list : List ℕ) → Table sh list → Table g.shape list
  mend_table list = subst (λ (z : Shape). Table z list) (sym read.shape_is)

  pub mend_led : Led g
  mend_led = read_led g lost r here.shape here.columns here.apart

  pub mend_stageable : (work : List ℕ) → length work ≡ room → Stageable g s work
  mend_stageable work e = read_stageable g lost r here.shape here.columns here.apart s work here.stripe (omega (arith, here.workspace))

  pub mend_patchable : (work : List ℕ) → length work ≡ room → Patchable g s work
  mend_patchable work e = read_patchable g lost r here.shape here.columns here.apart s work (mend_stageable work e)

  pub mend_in_order : InOrder g
  mend_in_order = read_in_order g lost r here.shape here.columns here.apart

  module _ (work : List ℕ) (staged : (v : ℕ → ℕ → ℕ → ℕ) → Solved g s v → Staged g v work) where
    -- the survivors disagree, and nothing is written
    pub mend_disagree : ¬ Agreed g s work → Outcome (late_table sh lost s) s (Solves sh lost s) 9 s
    mend_disagree against =
        let (x, o) = outer_some g.shape here.shape lost here.columns here.apart s here.stripe in
        let d = disagreed g lost r here.shape here.columns here.apart s x work here.stripe o
        (read_staged g lost r here.shape here.columns here.apart s x o work staged) against in
        record { answer = inl (subst (λ (z : Shape). Disagrees z lost s) read.shape_is d, refl); refused = λ z. refl; done = λ z. absurd (omega arith) }

    -- they agree, and the lost columns are written
    pub mend_done : Agreed g s work → (s' : List ℕ) → Bytes s' → Made g work (stores_in_all g) s s' → Outcome (late_table sh lost s) s (Solves sh lost s) 0 s'
    mend_done all s' bytes made =
        let (x, o) = outer_some g.shape here.shape lost here.columns here.apart s here.stripe in
        let (long, is) = made_all g s work mend_led (read_apart g lost r here.shape here.columns here.apart) s' made in
        let m = mended g lost r here.shape here.columns here.apart s x work here.stripe o
        (read_staged g lost r here.shape here.columns here.apart s x o work staged) all s' long bytes is in
        let sol : Solves sh lost s s' = subst (λ (z : Shape). Solves z lost s s') read.shape_is m in
        record { answer = inr ((λ h. h s' sol), refl); refused = λ z. absurd (z refl); done = λ z. sol }
