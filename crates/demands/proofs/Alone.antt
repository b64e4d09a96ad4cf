-- Alone: what a client sees does not depend on the others, nor on what the workspace first held.
-- A call is served in one way for given own buffers and workspace length; other clients' calls leave both as they are. So both sequences go from
-- one call of c to the next with c's buffers and the workspace's length equal.
use mathlib.Core.Path.{◌≡◌, refl, sym, ap, ap₂, ◌∙◌, subst}
use mathlib.Core.Logic.{◌⊎◌, ⊎_elim}
use mathlib.Core.Bool.{Bool, true, false}
use mathlib.Core.List.{List, [], ◌∷◌}
use Prim.Native.Nat.{ℕ}
use native.Mathlib.Omega.{arith}
use lib.ListN.{length}
use lib.Dec.{eqb}
use borrow.Author.Tests.{eqb-true, eqb-false, eq-eqb}
use Rattle.rebuild.specs.Rebuild.{Cleared}
use Rattle.demands.specs.Sequences.{Buffers, Request, Served, World, Event, Step, History, final, if_mine, asked, saw, OnlyOf}
use Rattle.demands.specs.Demands.{Alone, AsIfAlone, NoResidue}
use Rattle.demands.proofs.Served.{served_once, served_work}
use Rattle.demands.proofs.SomeAnswer.{some_answer}

-- ---- a step

step_work : (u : World) (e : Event) → Step u e → (e.after.work ≡ u.work) ⊎ Cleared (length u.work) e.after.work
step_work u e st = served_work e.request (u.own e.client) u.work e.reply (e.after.own e.client) e.after.work st.served

step_length : (u : World) (e : Event) → Step u e → length e.after.work ≡ length u.work
step_length u e st = ⊎_elim (λ z. ap length z) (λ z. z.long) (step_work u e st)

step_other : (c : ℕ) (u : World) (e : Event) → Step u e → eqb e.client c ≡ false → e.after.own c ≡ u.own c
step_other c u e st f = st.others c (λ z. eqb-false e.client c f (sym z))

step_mine : (c : ℕ) (u : World) (e : Event) → Step u e → eqb e.client c ≡ true
    → Served e.request (u.own c) u.work e.reply (e.after.own c) e.after.work
step_mine c u e st f =
    subst (λ (k : ℕ). Served e.request (u.own k) u.work e.reply (e.after.own k) e.after.work) (eqb-true e.client c f) st.served

-- ---- lists

apart : {A : Type 0} {x : A} {xs : List A} → (x ∷ xs) ≡ [] → ⊥
apart e = let n = ap length e in omega arith

-- ---- sequences

-- calls of others only
idle : (c : ℕ) (v : World) (fs : List Event) → History v fs → asked c fs ≡ [] → (saw c fs ≡ []) × ((final v fs).own c ≡ v.own c)
idle c v [] h e = (refl, refl)
idle c v (f ∷ fs) h e = at (eqb f.client c) refl e (λ k. idle c f.after fs h.1 k)
  where
    at : (t : Bool) → eqb f.client c ≡ t → if_mine t f.request (asked c fs) ≡ [] → (asked c fs ≡ [] → (saw c fs ≡ []) × ((final f.after fs).own c ≡ f.after.own c))
        → (if_mine t (f.reply, f.after.own c) (saw c fs) ≡ []) × ((final f.after fs).own c ≡ v.own c)
    at true z k ih = absurd (apart k)
    at false z k ih = ((ih k).0, (ih k).1 ∙ step_other c v f h.0 z)

-- what follows from two worlds in which c's buffers and the workspace's length are equal, where c asks the same
abbrev Onward : ℕ → World → List Event → Type 0
Onward c u es =
    (v : World) (fs : List Event) → History v fs → length u.work ≡ length v.work → u.own c ≡ v.own c → asked c es ≡ asked c fs
    → (saw c es ≡ saw c fs) × ((final u es).own c ≡ (final v fs).own c)

-- a call of c: the other sequence has the same, behind calls of others
meet : (c : ℕ) (u : World) (x : Event) (es : List Event) → Served x.request (u.own c) u.work x.reply (x.after.own c) x.after.work
    → length x.after.work ≡ length u.work → Onward c x.after es
    → (v : World) (fs : List Event) → History v fs → length u.work ≡ length v.work → u.own c ≡ v.own c → (x.request ∷ asked c es) ≡ asked c fs
    → ((x.reply, x.after.own c) ∷ saw c es ≡ saw c fs) × ((final x.after es).own c ≡ (final v fs).own c)
meet c u x es mine kept on v [] h len own e = absurd (apart e)
meet c u x es mine kept on v (f ∷ fs) h len own e =
    at (eqb f.client c) refl e (λ len' own' e'. meet c u x es mine kept on f.after fs h.1 len' own' e')
  where
    keeps : length f.after.work ≡ length v.work
    keeps = step_length v f h.0

    at : (t : Bool) → eqb f.client c ≡ t → (x.request ∷ asked c es) ≡ if_mine t f.request (asked c fs)
        → (length u.work ≡ length f.after.work → u.own c ≡ f.after.own c → (x.request ∷ asked c es) ≡ asked c fs
        → ((x.reply, x.after.own c) ∷ saw c es ≡ saw c fs) × ((final x.after es).own c ≡ (final f.after fs).own c))
        → ((x.reply, x.after.own c) ∷ saw c es ≡ if_mine t (f.reply, f.after.own c) (saw c fs)) × ((final x.after es).own c ≡ (final f.after fs).own c)
    at true z k ih =
        let head : x.request ≡ f.request = cc in
        let tail : asked c es ≡ asked c fs = cc in
        let his : Served x.request (u.own c) v.work f.reply (f.after.own c) f.after.work =
        subst (λ (q : Request). Served q (u.own c) v.work f.reply (f.after.own c) f.after.work) (sym head)
        (subst (λ (o : Buffers). Served f.request o v.work f.reply (f.after.own c) f.after.work) (sym own) (step_mine c v f h.0 z)) in
        let once = served_once (u.own c) u.work v.work x.reply f.reply (x.after.own c) (f.after.own c) x.after.work f.after.work x.request len mine his in
        let rest = on f.after fs h.1 (kept ∙ len ∙ sym keeps) once.1 tail in
        ((λ i. (once.0 i, once.1 i) ∷ rest.0 i), rest.1)
    at false z k ih = ih (len ∙ sym keeps) (own ∙ sym (step_other c v f h.0 z)) k

onward : (c : ℕ) (u : World) (es : List Event) → History u es → Onward c u es
onward c u [] hu v fs hv len own e = let z = idle c v fs hv (sym e) in (sym z.0, own ∙ sym z.1)
onward c u (x ∷ es) hu v fs hv len own e = at (eqb x.client c) refl e (onward c x.after es hu.1)
  where
    at : (t : Bool) → eqb x.client c ≡ t → if_mine t x.request (asked c es) ≡ asked c fs → Onward c x.after es
        → (if_mine t (x.reply, x.after.own c) (saw c es) ≡ saw c fs) × ((final x.after es).own c ≡ (final v fs).own c)
    at true z k ih = meet c u x es (step_mine c u x hu.0 z) (step_length u x hu.0) ih v fs hv len own k
    at false z k ih = ih v fs hv (step_length u x hu.0 ∙ len) (step_other c u x hu.0 z ∙ own) k

pub alone : Alone
alone c u v es fs hu hv len own e = onward c u es hu v fs hv len own e

-- ---- as if alone

serve : (c : ℕ) (qs : List Request) (u : World) → (fs : List Event) × History u fs × OnlyOf c fs × (asked c fs ≡ qs)
serve c [] u = ([], tt, tt, refl)
serve c (q ∷ qs) u =
    let (e, mine, is, st) = some_answer c q u in
    let (fs, h, o, a) = serve c qs e.after in
    (e ∷ fs, (st, h), (mine, o), rw (eq-eqb e.client c mine) (ap₂ ◌∷◌ is a))

pub as_if_alone : AsIfAlone
as_if_alone c u v es h len own =
    let (fs, k, o, a) = serve c (asked c es) v in
    (fs, k, o, a, sym (alone c u v es fs h k len own (sym a)).0)

-- ---- no residue

pub no_residue : NoResidue
no_residue u [] h z = z
no_residue u (e ∷ es) h z =
    let y : Cleared (length u.work) e.after.work =
    ⊎_elim (λ k. subst (Cleared (length u.work)) (sym k) z) (λ k. k) (step_work u e h.0) in
    let x = no_residue e.after es h.1 (subst (λ (n : ℕ). Cleared n e.after.work) (sym y.long) y) in
    subst (λ (n : ℕ). Cleared n (final e.after es).work) y.long x
