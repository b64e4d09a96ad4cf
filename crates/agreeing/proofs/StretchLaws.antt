-- Which chains remain: up from first, those nearer than second, or than first's symbols reach, and those beyond the lost columns.
-- No lost symbol is solved from them, and from every other chain one is: no chain is left out.
-- To cite: ends, between_free, agreed_tells, agreed_not, agreed_none.
use mathlib.Core.Path.{◌≡◌, refl, sym, ap, ◌∙◌, subst}
use mathlib.Core.Logic.{◌⊎◌, inl, inr, ⊎_elim}
use mathlib.Core.Bool.{Bool}
use mathlib.Core.List.{List}
use Prim.Native.Nat.{ℕ, ◌+◌, ◌-◌, ◌*◌, ◌≤◌, ◌<◌}
use native.Mathlib.Omega.{arith}
use native.Mathlib.Decide.{dec_lt}
use borrow.Author.Tests.{lt-ltb, le-ltb}
use Rattle.xor.specs.Tells.{Tells}
use Rattle.shape.specs.Good.{Good}
use Rattle.shape.specs.Step.{right}
use Rattle.shape.proofs.GoodLaws.{good_m, good_wide}
use Rattle.shape.proofs.StepLaws.{Reach, reach₂, right_lt, right_reach, back}
use Rattle.walking.proofs.WalkLaws.{right_near}
use Rattle.rule.specs.Outer.{walk}
use Rattle.rule.proofs.OrderLaws.{walk_lt, walk_reach, walk_ends}
use Rattle.solving.specs.declared.Gone.{Gone}
use Rattle.standing.specs.Standing.{Even}
use Rattle.standing.proofs.Stretch.{right_on}
use Rattle.agreeing.specs.Agreeing.{Uses, Holds, Agreed, distance, past, InOrder, Patchable}
use Rattle.agreeing.proofs.ChangedLaws.{distance_of, distance_none}
use Rattle.agreeing.proofs.AgreeingLaws.{same_distance, uses_near, off_first, off_second, even_holds, holds_even}

-- ---- the lost columns are in order, and there is a first; `end` is how far it is up to second

module _ (g : Gone) (good : Good g.shape) (ordered : InOrder g) (hf : g.first < g.shape.n) (end : ℕ)
    (ee : end ≡ distance g.shape g.first g.second) where
  abbrev m : ℕ
  m = g.shape.m

  abbrev n : ℕ
  n = g.shape.n

  -- where the chains between end, and where those beyond begin
  end_two : g.second < n → (end ≡ walk n g.first g.second) × (past g end ≡ end + m) × (2 * end ≤ n)
  end_two hg =
      let e : end ≡ walk n g.first g.second = ee ∙ distance_of g.shape g.first g.second hf hg in
      (e, rw (lt-ltb g.second n hg) refl, omega (arith, e, (ordered hg).1))

  end_one : n ≤ g.second → (end ≡ m) × (past g end ≡ m)
  end_one hg = (ee ∙ distance_none g.shape g.first g.second (inr hg), rw (le-ltb g.second n hg) refl)

  -- both stretches are within the n chains
  pub ends : (2 * end ≤ n) × (past g end + m ≤ n + 1)
  ends = at (dec_lt g.second n)
    where
      at : Dec (g.second < n) → (2 * end ≤ n) × (past g end + m ≤ n + 1)
      at (yes hg) = let (e, p, h) = end_two hg in (h, omega (arith, p, h, good_wide g.shape good))
      at (no hg) = let (e, p) = end_one (omega arith) in (omega (arith, e, good_wide g.shape good, good.m_fits.0), omega (arith, p, good_wide g.shape good, good.m_fits.0))

  -- chain p is e up from first
  module _ (p e : ℕ) (hp : p < n) (he : e < n) (r : Reach n g.first e p) where
    -- first is as far up from it as is left of the way round, or it is first's own
    down_is : 1 ≤ e → distance g.shape p g.first ≡ n - e
    down_is lo = same_distance g.shape p g.first (n - e) hp hf (omega arith) (back n g.first e p (omega arith) r)

    here_is : e ≡ 0 → distance g.shape p g.first ≡ 0
    here_is z = same_distance g.shape p g.first 0 hp hf (omega arith) (⊎_elim (λ u. inl (omega arith)) (λ u. absurd (omega arith)) r)

    -- there is a second: it is `end` up from first
    module _ (hg : g.second < n) where
      to_second : Reach n g.first end g.second
      to_second = rw (end_two hg).0 (walk_reach n g.first g.second hf hg)

      -- how far the chain is up from second, before it and after it, and second from the chain
      nearer : e < end → distance g.shape g.second p ≡ n + e - end
      nearer lo =
          let h = (end_two hg).2 in
          same_distance g.shape g.second p (n + e - end) hg hp (omega (arith, h))
          (reach₂ to_second r (λ u v. inr (omega arith)) (λ u v. absurd (omega arith)) (λ u v. inl (omega arith)) (λ u v. inr (omega arith)))

      farther : end ≤ e → distance g.shape g.second p ≡ e - end
      farther lo =
          same_distance g.shape g.second p (e - end) hg hp (omega arith)
          (reach₂ to_second r (λ u v. inl (omega arith)) (λ u v. inr (omega arith)) (λ u v. absurd (omega arith)) (λ u v. inl (omega arith)))

      ahead : end < e → distance g.shape p g.second ≡ n + end - e
      ahead lo =
          same_distance g.shape p g.second (n + end - e) hp hg (omega arith)
          (reach₂ to_second r (λ u v. inr (omega arith)) (λ u v. inl (omega arith)) (λ u v. absurd (omega arith)) (λ u v. inr (omega arith)))

    -- no lost symbol is solved from it, if it is between
    between_not : 1 ≤ e → e < end → ¬ Uses g p
    between_not lo hi u =
        ⊎_elim (λ h. omega (arith, h, down_is lo, ends.0, good_wide g.shape good, good.m_fits.0)) (at (dec_lt g.second n))
        (uses_near g good p hp u)
      where
        at : Dec (g.second < n) → distance g.shape g.second p < m → ⊥
        at (yes hg) h = omega (arith, h, nearer hg hi, ends.0, good_wide g.shape good, good.m_fits.0)
        at (no hg) h = omega (arith, h, distance_none g.shape g.second p (inl (omega arith)))

    -- nor if it is beyond, and then nothing staged is on it
    module _ (lo : past g end ≤ e) (hi : e + m ≤ n) where
      from_second : (m ≤ distance g.shape g.second p) × (m ≤ distance g.shape p g.second) × (m ≤ e)
      from_second = at (dec_lt g.second n)
        where
          at : Dec (g.second < n) → (m ≤ distance g.shape g.second p) × (m ≤ distance g.shape p g.second) × (m ≤ e)
          at (yes hg) =
              let q = (end_two hg).1 in let k = good_m g.shape good in
              (omega (arith, q, farther hg (omega (arith, q))), omega (arith, q, ahead hg (omega (arith, q, k))), omega (arith, q))
          at (no hg) =
              let q = (end_one (omega arith)).1 in (
                omega (arith, distance_none g.shape g.second p (inl (omega arith))),
                omega (arith, distance_none g.shape p g.second (inr (omega arith))),
                omega (arith, q),
              )

      beyond_not : ¬ Uses g p
      beyond_not u = let (away, z, k) = from_second in
          ⊎_elim (λ h. omega (arith, h, down_is (omega (arith, k, good_m g.shape good)))) (λ h. omega (arith, h, away)) (uses_near g good p hp u)

      bare : (m ≤ distance g.shape g.first p) × (m ≤ distance g.shape p g.second)
      bare = (omega (arith, from_second.2, same_distance g.shape g.first p e hf hp he r), from_second.1)

    -- every other chain is used
    remains : ¬ Uses g p → ((1 ≤ e) × (e < end)) ⊎ ((past g end ≤ e) × (e + m ≤ n))
    remains free = at (dec_lt 0 e) (dec_lt e end) (dec_lt g.second n)
      where
        off : m ≤ distance g.shape p g.first
        off = off_first g good p hp free

        at : Dec (0 < e) → Dec (e < end) → Dec (g.second < n) → ((1 ≤ e) × (e < end)) ⊎ ((past g end ≤ e) × (e + m ≤ n))
        at (no z) k hg = absurd (omega (arith, off, here_is (omega arith), good_m g.shape good))
        at (yes lo) (yes hi) hg = inl (lo, hi)
        at (yes lo) (no hi) (yes hg) = inr (omega (arith, (end_two hg).1, farther hg (omega arith), off_second g good p hp free), omega (arith, off, down_is lo))
        at (yes lo) (no hi) (no hg) = inr (omega (arith, end_one (omega arith)), omega (arith, off, down_is lo))

  -- so no lost symbol is solved from the chains between
  pub between_free : (e : ℕ) → 1 ≤ e → e < end → ¬ Uses g (right n g.first e)
  between_free e lo hi =
      let k : e < n = omega (arith, ends.0) in
      between_not (right n g.first e) e (right_lt n g.first e hf k) k (right_reach n g.first e hf k) lo hi

  module _ (s out : List ℕ) (ok : Patchable g s out) where
    -- one of the chains between does not hold
    pub agreed_not : ¬ ((e : ℕ) → 1 ≤ e → e < end → Holds g s out (right n g.first e)) → ¬ Agreed g s out
    agreed_not not all = not (λ e lo hi. all (right n g.first e) (right_lt n g.first e hf (omega (arith, ends.0))) (between_free e lo hi))

    -- the chains beyond begin `from` up from first
    module _ (from start : ℕ) (ef : from ≡ past g end) (es : start ≡ right n g.first from) where
      stretch_at : (i : ℕ) → i < n + 1 - m - from → (right n start i < n) × Reach n g.first (from + i) (right n start i)
      stretch_at i hi =
          let k = good_m g.shape good in
          rw (es, right_on n g.first from i) (right_lt n g.first (from + i) hf (omega (arith, k)), right_reach n g.first (from + i) hf (omega (arith, k)))

      -- a chain that remains holds, if those between do and those beyond do as the stripe has them
      there : (p e : ℕ) → p < n → e < n → Reach n g.first e p → right n g.first e ≡ p
          → ((d : ℕ) → 1 ≤ d → d < end → Holds g s out (right n g.first d))
          → ((i : ℕ) → i < n + 1 - m - from → Even g.shape s (right n start i) 0 g.shape.w)
          → ¬ Uses g p → Holds g s out p
      there p e hp he to ep between beyond free = on (remains p e hp he to free)
        where
          on : ((1 ≤ e) × (e < end)) ⊎ ((past g end ≤ e) × (e + m ≤ n)) → Holds g s out p
          on (inl (lo, hi)) = subst (Holds g s out) ep (between e lo hi)
          on (inr (lo, hi)) =
              let z : from + (e - from) ≡ e = omega arith in
              let q : right n start (e - from) ≡ p =
              ap (λ (c : ℕ). right n c (e - from)) es ∙ right_on n g.first from (e - from) ∙ ap (right n g.first) z ∙ ep in
              let b = bare p e hp he to lo hi in
              even_holds g good p hp free s out ok b.0 b.1 (subst (λ (c : ℕ). Even g.shape s c 0 g.shape.w) q (beyond (e - from) (omega arith)))

      -- those between hold, and of those beyond it is told
      pub agreed_tells : (r : Bool) → ((e : ℕ) → 1 ≤ e → e < end → Holds g s out (right n g.first e))
          → Tells ((i : ℕ) → i < n + 1 - m - from → Even g.shape s (right n start i) 0 g.shape.w) r → Tells (Agreed g s out) r
      agreed_tells r between tells = record {
        yes = λ k p hp.
            there p (walk n g.first p) hp (walk_lt n g.first p hf hp) (walk_reach n g.first p hf hp) (walk_ends n g.first p hf hp) between (tells.yes k);
        no = λ all. tells.no (no all);
      }
        where
          no : Agreed g s out → (i : ℕ) → i < n + 1 - m - from → Even g.shape s (right n start i) 0 g.shape.w
          no all i hi =
              let (hp, to) = stretch_at i hi in
              let he : from + i < n = omega (arith, good_m g.shape good) in
              let free = beyond_not (right n start i) (from + i) hp he to (omega arith) (omega arith) in
              let b = bare (right n start i) (from + i) hp he to (omega arith) (omega arith) in
              holds_even g good (right n start i) hp free s out ok b.0 b.1 (all (right n start i) hp free)

-- ---- there is no first, and so no second

pub agreed_none : (g : Gone) (s out : List ℕ) → Patchable g s out → InOrder g → g.shape.n ≤ g.first → (r : Bool)
    → Tells ((i : ℕ) → i < g.shape.n → Even g.shape s (right g.shape.n 0 i) 0 g.shape.w) r → Tells (Agreed g s out) r
agreed_none g s out ok ordered none r tells = record {
  yes = λ k p hp free. even_holds g ok.good p hp free s out ok (away p) (off p) (subst row (at p hp) (tells.yes k p hp));
  no = λ all. tells.no (λ i hi.
      subst row (sym (at i hi)) (holds_even g ok.good i hi (unused i hi) s out ok (away i) (off i) (all i hi (unused i hi))));
}
  where
    row : ℕ → Type 0
    row q = Even g.shape s q 0 g.shape.w

    at : (i : ℕ) → i < g.shape.n → right g.shape.n 0 i ≡ i
    at i hi = omega (arith, right_near g.shape.n 0 (omega arith) i (omega arith))

    second_none : g.shape.n ≤ g.second
    second_none = let no : ¬ (g.second < g.shape.n) = λ h. omega (arith, (ordered h).0) in omega arith

    away : (p : ℕ) → g.shape.m ≤ distance g.shape g.first p
    away p = omega (arith, distance_none g.shape g.first p (inl none))

    off : (p : ℕ) → g.shape.m ≤ distance g.shape p g.second
    off p = omega (arith, distance_none g.shape p g.second (inr second_none))

    unused : (p : ℕ) → p < g.shape.n → ¬ Uses g p
    unused p hp u =
        ⊎_elim (λ h. omega (arith, h, distance_none g.shape p g.first (inr none)))
        (λ h. omega (arith, h, distance_none g.shape g.second p (inl second_none)))
        (uses_near g ok.good p hp u)
