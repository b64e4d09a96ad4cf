-- Laws of what a record does: one outcome and some, of each kind and of a record that is no client's; a refused record changes nothing.
-- Each by the law of the call that the kind stands for.
-- To cite: Looks; told_number; tells_one, tells_some, tells_refused, tells_shown.
use mathlib.Core.Path.{◌≡◌, refl, sym, ap, ◌∙◌, subst}
use mathlib.Core.Logic.{◌≢◌, inl, inr}
use mathlib.Core.Bool.{true, cond}
use mathlib.Core.List.{List}
use Prim.Native.Nat.{ℕ}
use native.Mathlib.Decide.{ℕ_discrete}
use lib.ListN.{length, get_or, drop}
use lib.Dec.{eqb}
use Rattle.shape.specs.declared.Shape.{Shape}
use Rattle.std.specs.Prelude.{Option, None, Some, Result, is_some}
use Rattle.answer.specs.declared.Refusal.{Refusal}
use Rattle.answer.specs.Answers.{Answer, number, Table, First}
use Rattle.shape.specs.Refusals.{shape_table}
use Rattle.answer.proofs.AnswersLaws.{first_one}
use Rattle.shape.proofs.Ready.{shape_ready}
use Rattle.rule.specs.Losses.{named}
use Rattle.checking.specs.declared.Checked.{Checked}
use Rattle.checking.proofs.CheckLaws.{check_one, check_some}
use Rattle.checking.specs.Check.{counts}
use Rattle.locating.specs.declared.Damage.{Damage}
use Rattle.locating.specs.Locate.{finding}
use Rattle.locating.proofs.LocateLaws.{locate_one, locate_some}
use Rattle.writing.specs.Write.{SmallWrite}
use Rattle.storing.specs.Store.{RawStore}
use Rattle.writing.proofs.WriteLaws.{write_one, write_some}
use Rattle.storing.proofs.StoreLaws.{store_one, store_some}
use Rattle.rebuild.specs.Rebuild.{Rebuild, Cleared}
use Rattle.rebuild.proofs.RebuildLaws.{rebuild_one, rebuild_some}
use Rattle.kinds.specs.declared.Told.{Told}
use Rattle.kinds.specs.declared.Deed.{Deed}
use Rattle.kinds.specs.Kinds.{Held, Kind, shaping, writing, storing, checking, locating, rebuilding, Early, job_table, deed, named_shape, Shapes, stripe, Inside, Does, TellsOf}
use Rattle.kinds.proofs.BufferLaws.{inside_one, inside_kept, inside_some, zeros_are, zeros_some}
use Rattle.kinds.proofs.FrontLaws.{outcome_long}
use Rattle.kinds.proofs.KindsLaws.{of_kind, table_some, job_ready, job_passed}

-- ---- each kind: one outcome, some, and where it is refused nothing changed

-- the answer that is told, 0 where nothing is
abbrev pub told_number : Option Told → ℕ
told_number None = 0
told_number (Some told) = told.answer

-- the shape held is h and the buffer s' is s, if the line's answer is no 0
abbrev Unchanged : Held → List ℕ → Deed → List ℕ → Type 0
Unchanged h s d s' = told_number d.told ≢ 0 → (d.held ≡ h) × (s' ≡ s)

module _ (h : Held) (p s : List ℕ) where
  -- of the shape that the payload names
  abbrev T : Table
  T = shape_table (named_shape p)

  shapes_one : (d e : Deed) (x y : List ℕ) → Shapes h p s d x → Shapes h p s e y → (d ≡ e) × (x ≡ y)
  shapes_one d e x y (j, f, inl u) (k, g, inl v) = (
    u.1.is ∙ sym v.1.is,
    inside_one (named_shape p) s x y u.1.inside v.1.inside (
        zeros_are (named_shape p) s x u.1.inside u.1.zeros ∙ sym (zeros_are (named_shape p) s y v.1.inside v.1.zeros)),
  )
  shapes_one d e x y (j, f, inl u) (k, g, inr v) = absurd (v.0 (first_one T k j g f ∙ u.0))
  shapes_one d e x y (j, f, inr u) (k, g, inl v) = absurd (u.0 (first_one T j k f g ∙ v.0))
  shapes_one d e x y (j, f, inr u) (k, g, inr v) = (u.1 ∙ ap (λ (k : ℕ). deed h k 0 0) (first_one T j k f g) ∙ sym v.1, u.2 ∙ sym v.2)

  shapes_some : (d : Deed) × (s' : List ℕ) × Shapes h p s d s'
  shapes_some = let (k, f) = table_some T (shape_ready (named_shape p)) in at k f (ℕ_discrete k 0)
    where
      at : (k : ℕ) → First T k → Dec (k ≡ 0) → (d : Deed) × (s' : List ℕ) × Shapes h p s d s'
      at k f (yes e) = let (s', z, i) = zeros_some (named_shape p) s in (_, s', (k, f, inl (e, record { is = refl; zeros = z; inside = i })))
      at k f (no e) = (_, s, (k, f, inr (e, refl, refl)))

  shapes_refused : (d : Deed) (x : List ℕ) → Shapes h p s d x → Unchanged h s d x
  shapes_refused d x (k, f, inl u) n = absurd (n (ap (λ (d : Deed). told_number d.told) u.1.is))
  shapes_refused d x (k, f, inr u) n = (ap (λ (d : Deed). d.held) u.1, u.2)

module _ (sh : Shape) (s : List ℕ) where
  -- a call that writes to the stripe, of the contract C, with this x in its line
  abbrev Changes : (Answer → List ℕ → Type 0) → (Answer → ℕ) → Deed → List ℕ → Type 0
  Changes C x d s' = (a : Answer) × C a (stripe sh s') × Inside sh s s' × (d ≡ deed (Some sh) (number a) (x a) 0)

  module _ (C : Answer → List ℕ → Type 0) (x : Answer → ℕ) where
    changes_one : (D : Answer → List ℕ → Type 0) → ((a b : Answer) (y z : List ℕ) → C a y → D b z → (a ≡ b) × (y ≡ z))
        → (d e : Deed) (y z : List ℕ) → Changes C x d y → Changes D x e z → (d ≡ e) × (y ≡ z)
    changes_one D one d e y z (a, p, i, u) (b, q, j, v) =
        let (same, front) = one a b _ _ p q in
        (u ∙ ap (λ (a : Answer). deed (Some sh) (number a) (x a) 0) same ∙ sym v, inside_one sh s y z i j front)

    changes_some : ((a : Answer) (y : List ℕ) → C a y → length y ≡ length (stripe sh s)) → (a : Answer) × (y : List ℕ) × C a y
        → (d : Deed) × (s' : List ℕ) × Changes C x d s'
    changes_some long (a, y, p) = let (s', e, i) = inside_some sh s y (long a y p) in (_, s', (a, subst (C a) (sym e) p, i, refl))

    changes_refused : ((a : Answer) (y : List ℕ) → C a y → number a ≢ 0 → y ≡ stripe sh s) → (d : Deed) (y : List ℕ) → Changes C x d y → Unchanged (Some sh) s d y
    changes_refused kept d y (a, p, i, u) n =
        (ap (λ (d : Deed). d.held) u, inside_kept sh s y i (kept a _ p (λ e. n (ap (λ (d : Deed). told_number d.told) u ∙ e))))

  -- a call that only looks, of the contract C, with this deed
  abbrev pub Looks : {A : Type 0} → (A → Type 0) → (A → Deed) → Deed → List ℕ → Type 0
  Looks {A} C f d s' = (r : A) × C r × (s' ≡ s) × (d ≡ f r)

  looks_one : {A : Type 0} (C : A → Type 0) (f : A → Deed) → ((r q : A) → C r → C q → r ≡ q)
      → (d e : Deed) (y z : List ℕ) → Looks C f d y → Looks C f e z → (d ≡ e) × (y ≡ z)
  looks_one C f one d e y z (r, p, i, u) (q, g, j, v) = (u ∙ ap f (one r q p g) ∙ sym v, i ∙ sym j)

  looks_some : {A : Type 0} (C : A → Type 0) (f : A → Deed) → (r : A) × C r → (d : Deed) × (s' : List ℕ) × Looks C f d s'
  looks_some C f (r, p) = (f r, s, (r, p, refl, refl))

-- ---- what a kind does

abbrev count_line : Shape → Result Checked Refusal → Deed
count_line sh r = deed (Some sh) (number r) (counts r).0 (counts r).1

abbrev find_line : Shape → Result Damage Refusal → Deed
find_line sh r = deed (Some sh) (number r) (finding r).0 (finding r).1

abbrev lost_count : List ℕ → Answer → ℕ
lost_count p a = cond (eqb (number a) 0) (get_or p 0 0) 0

module _ (p s : List ℕ) (room : ℕ) where
  -- the contracts of kinds 2, 3 and 6
  abbrev Write : Shape → Answer → List ℕ → Type 0
  Write sh = SmallWrite sh (stripe sh s) (get_or p 0 0) (get_or p 1 0) (drop 2 p)

  abbrev Store : Shape → Answer → List ℕ → Type 0
  Store sh = RawStore sh (stripe sh s) (get_or p 0 0) (get_or p 1 0) (drop 2 p)

  abbrev Mend : Shape → List ℕ → Answer → List ℕ → Type 0
  Mend sh u a x = Rebuild sh (named (get_or p 0 0) (get_or p 1 0) (get_or p 2 0)) (stripe sh s) room a x u

  does_one : (k : Kind) (h : Held) (d e : Deed) (x y u v : List ℕ) → Does k h p s room d x u → Does k h p s room e y v → (d ≡ e) × (x ≡ y)
  does_one shaping h d e x y u v a b = shapes_one h p s d e x y a b
  does_one writing None d e x y u v a b = absurd a
  does_one writing (Some sh) d e x y u v a b =
      changes_one sh s (Write sh) (λ a. 0) (Write sh) (write_one sh (stripe sh s) (get_or p 0 0) (get_or p 1 0) (drop 2 p)) d e x y a b
  does_one storing None d e x y u v a b = absurd a
  does_one storing (Some sh) d e x y u v a b =
      changes_one sh s (Store sh) (λ a. 0) (Store sh) (store_one sh (stripe sh s) (get_or p 0 0) (get_or p 1 0) (drop 2 p)) d e x y a b
  does_one checking None d e x y u v a b = absurd a
  does_one checking (Some sh) d e x y u v a b = looks_one sh s _ (count_line sh) (check_one sh (stripe sh s)) d e x y a b
  does_one locating None d e x y u v a b = absurd a
  does_one locating (Some sh) d e x y u v a b = looks_one sh s _ (find_line sh) (locate_one sh (stripe sh s)) d e x y a b
  does_one rebuilding None d e x y u v a b = absurd a
  does_one rebuilding (Some sh) d e x y u v a b =
      changes_one sh s (Mend sh u) (lost_count p) (Mend sh v) (λ a b x y i j.
      let z = rebuild_one sh (named (get_or p 0 0) (get_or p 1 0) (get_or p 2 0)) (stripe sh s) room a b x y u v i j in (z.0, z.1)) d e x y a b

  module _ (w : List ℕ) (clear : Cleared room w) where
    -- some, with any clear workspace
    does_some : (k : Kind) (h : Held) → ¬ Early k h → (d : Deed) × (s' : List ℕ) × Does k h p s room d s' w
    does_some shaping h n = shapes_some h p s
    does_some writing None n = absurd (n tt)
    does_some writing (Some sh) n =
        changes_some sh s (Write sh) (λ a. 0) (λ a x o. outcome_long (λ i. i.long) o) (write_some sh (stripe sh s) (get_or p 0 0) (get_or p 1 0) (drop 2 p))
    does_some storing None n = absurd (n tt)
    does_some storing (Some sh) n =
        changes_some sh s (Store sh) (λ a. 0) (λ a x o. outcome_long (λ i. i.long) o) (store_some sh (stripe sh s) (get_or p 0 0) (get_or p 1 0) (drop 2 p))
    does_some checking None n = absurd (n tt)
    does_some checking (Some sh) n = looks_some sh s _ (count_line sh) (check_some sh (stripe sh s))
    does_some locating None n = absurd (n tt)
    does_some locating (Some sh) n = looks_some sh s _ (find_line sh) (locate_some sh (stripe sh s))
    does_some rebuilding None n = absurd (n tt)
    does_some rebuilding (Some sh) n =
        let (a, x, u, o) = rebuild_some sh (named (get_or p 0 0) (get_or p 1 0) (get_or p 2 0)) (stripe sh s) room in
        changes_some sh s (Mend sh w) (lost_count p) (λ a x o. outcome_long (λ i. i.long) o.outcome)
        (a, x, record { outcome = o.outcome; cleared = clear })

  does_refused : (k : Kind) (h : Held) (d : Deed) (x u : List ℕ) → Does k h p s room d x u → Unchanged h s d x
  does_refused shaping h d x u a = shapes_refused h p s d x a
  does_refused writing None d x u a = absurd a
  does_refused writing (Some sh) d x u a = changes_refused sh s (Write sh) (λ a. 0) (λ a x o. o.refused) d x a
  does_refused storing None d x u a = absurd a
  does_refused storing (Some sh) d x u a = changes_refused sh s (Store sh) (λ a. 0) (λ a x o. o.refused) d x a
  does_refused checking None d x u a = absurd a
  does_refused checking (Some sh) d x u (r, q, i, e) = λ n. (ap (λ (d : Deed). d.held) e, i)
  does_refused locating None d x u a = absurd a
  does_refused locating (Some sh) d x u (r, q, i, e) = λ n. (ap (λ (d : Deed). d.held) e, i)
  does_refused rebuilding None d x u a = absurd a
  does_refused rebuilding (Some sh) d x u a = changes_refused sh s (Mend sh u) (lost_count p) (λ a x o. o.outcome.refused) d x a

  does_shown : (k : Kind) (h : Held) (d : Deed) (x u : List ℕ) → Does k h p s room d x u → is_some d.told ≡ true
  does_shown shaping h d x u (k, f, inl a) = ap (λ (d : Deed). is_some d.told) a.1.is
  does_shown shaping h d x u (k, f, inr a) = ap (λ (d : Deed). is_some d.told) a.1
  does_shown writing None d x u a = absurd a
  does_shown writing (Some sh) d x u a = ap (λ (d : Deed). is_some d.told) a.3
  does_shown storing None d x u a = absurd a
  does_shown storing (Some sh) d x u a = ap (λ (d : Deed). is_some d.told) a.3
  does_shown checking None d x u a = absurd a
  does_shown checking (Some sh) d x u a = ap (λ (d : Deed). is_some d.told) a.3
  does_shown locating None d x u a = absurd a
  does_shown locating (Some sh) d x u a = ap (λ (d : Deed). is_some d.told) a.3
  does_shown rebuilding None d x u a = absurd a
  does_shown rebuilding (Some sh) d x u a = ap (λ (d : Deed). is_some d.told) a.3

  -- ---- a record that is no client's

  module _ (kind : ℕ) (h : Held) where
    pub tells_one : (d e : Deed) (x y u v : List ℕ) → TellsOf kind h p s room d x u → TellsOf kind h p s room e y v → (d ≡ e) × (x ≡ y)
    tells_one d e x y u v (j, f, inl a) (k, g, inl b) = (a.1 ∙ ap (λ (k : ℕ). deed h k 0 0) (first_one (job_table h kind p) j k f g) ∙ sym b.1, a.2 ∙ sym b.2)
    tells_one d e x y u v (j, f, inl a) (k, g, inr b) = absurd (a.0 (first_one (job_table h kind p) j k f g ∙ b.0))
    tells_one d e x y u v (j, f, inr a) (k, g, inl b) = absurd (b.0 (first_one (job_table h kind p) k j g f ∙ a.0))
    tells_one d e x y u v (j, f, inr (i, (l, is, a))) (k, g, inr b) =
        does_one l h d e x y u v a (of_kind kind (λ l. Does l h p s room e y v) b.1 l is)

    pub tells_some : (w : List ℕ) → Cleared room w → (d : Deed) × (s' : List ℕ) × TellsOf kind h p s room d s' w
    tells_some w clear = let (k, f) = table_some (job_table h kind p) (job_ready h kind p) in at k f (ℕ_discrete k 0)
      where
        at : (k : ℕ) → First (job_table h kind p) k → Dec (k ≡ 0) → (d : Deed) × (s' : List ℕ) × TellsOf kind h p s room d s' w
        at k f (yes e) =
            let (l, is, late, right) = job_passed h kind p (rw e at f) in
            let (d, s', a) = does_some w clear l h late in (d, s', (k, f, inr (e, (l, is, a))))
        at k f (no e) = (_, s, (k, f, inl (e, refl, refl)))

    pub tells_refused : (d : Deed) (x u : List ℕ) → TellsOf kind h p s room d x u → Unchanged h s d x
    tells_refused d x u (k, f, inl a) n = (ap (λ (d : Deed). d.held) a.1, a.2)
    tells_refused d x u (k, f, inr (i, (l, is, a))) n = does_refused l h d x u a n

    -- it gets a line
    pub tells_shown : (d : Deed) (x u : List ℕ) → TellsOf kind h p s room d x u → is_some d.told ≡ true
    tells_shown d x u (k, f, inl a) = ap (λ (d : Deed). is_some d.told) a.1
    tells_shown d x u (k, f, inr (i, (l, is, a))) = does_shown l h d x u a
