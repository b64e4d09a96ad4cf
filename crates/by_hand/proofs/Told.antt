-- What each call has to answer here: it has one outcome, and the case on the list is it.
use mathlib.Core.Path.{◌≡◌, refl, ap, subst}
use mathlib.Core.Bool.{Bool, true}
use mathlib.Core.List.{List, [], ◌∷◌}
use Prim.Native.Nat.{ℕ, ◌*◌, ◌≤◌}
use lib.ListN.{replicate}
use Rattle.shape.specs.declared.Shape.{Shape}
use Rattle.answer.specs.Answers.{Answer}
use Rattle.answer.specs.declared.Refusal.{Refusal}
use Rattle.std.specs.Prelude.{Result, Ok, is_ok}
use Rattle.std.specs.Result.{result_eq}
use Rattle.shape.specs.Place.{column_length}
use Rattle.rule.specs.declared.Losses.{Losses}
use Rattle.checking.specs.declared.Checked.{Checked}
use Rattle.locating.specs.declared.Damage.{Damage}
use Rattle.encoding.specs.Encode.{Encode}
use Rattle.checking.specs.Check.{Check}
use Rattle.locating.specs.Locate.{Locate}
use Rattle.writing.specs.Write.{SmallWrite}
use Rattle.storing.specs.Store.{RawStore}
use Rattle.rebuild.specs.Rebuild.{Rebuild}
use Rattle.encoding.proofs.EncodeLaws.{encode_one}
use Rattle.checking.proofs.CheckLaws.{check_one}
use Rattle.locating.proofs.LocateLaws.{locate_one}
use Rattle.writing.proofs.WriteLaws.{write_one}
use Rattle.storing.proofs.StoreLaws.{store_one}
use Rattle.rebuild.proofs.RebuildLaws.{rebuild_one}
use Rattle.demands.specs.Cases.{Case, Holds, woven, sh₅, information, parity, stripe₅}
use Rattle.demands.proofs.Five.{p5}

-- the shape and the stripe of a call put in their places
at₅ : (K : Shape → List ℕ → Type 0) (sh : Shape) (s z : List ℕ) → sh ≡ sh₅ → s ≡ z → K sh s → K sh₅ z
at₅ K sh s z e i h = subst (λ (k : Shape). K k z) e (subst (λ (k : List ℕ). K sh k) i h)

done : (a : Answer) → a ≡ Ok tt → is_ok a ≡ true
done a e = ap is_ok e

-- the information of P5 over a parity of EE
abbrev pub raw : List ℕ
raw = 1 ∷ 238 ∷ 2 ∷ 238 ∷ 4 ∷ 238 ∷ 8 ∷ 238 ∷ 16 ∷ 238 ∷ []

pub encode_told : (sh : Shape) (a : Answer) (x : List ℕ) → sh ≡ sh₅ → Encode sh raw a x → (is_ok a ≡ true) × (x ≡ stripe₅)
unfolding woven information parity stripe₅
encode_told sh a x e h =
    let one = encode_one sh₅ raw a (Ok tt) x stripe₅ (at₅ (λ k z. Encode k z a x) sh raw raw e refl h) (p5 238 238 238 238 238) in
    (done a one.0, one.1)

pub rebuild_told : (sh : Shape) (s z : List ℕ) (lost : Losses) (room : ℕ) (left : List ℕ) (a : Answer) (x u : List ℕ) → sh ≡ sh₅ → s ≡ z → 2 * column_length sh₅ ≤ room
    → Holds (Case.rebuilds sh₅ lost z left) → Rebuild sh lost s room a x u → (is_ok a ≡ true) × (x ≡ left) × (u ≡ replicate room 0)
rebuild_told sh s z lost room left a x u e i enough p h =
    let one = rebuild_one sh₅ lost z room a (Ok tt) x left u (replicate room 0) (at₅ (λ k y. Rebuild k lost y room a x u) sh s z e i h) (p room enough) in
    (done a one.0, one.1, one.2)

pub write_told : (sh : Shape) (s z : List ℕ) (c r : ℕ) (new left : List ℕ) (a : Answer) (x : List ℕ) → sh ≡ sh₅ → s ≡ z → Holds (Case.small_writes sh₅ z c r new left)
    → SmallWrite sh s c r new a x → (is_ok a ≡ true) × (x ≡ left)
write_told sh s z c r new left a x e i p h =
    let one = write_one sh₅ z c r new a (Ok tt) x left (at₅ (λ k y. SmallWrite k y c r new a x) sh s z e i h) p in
    (done a one.0, one.1)

pub store_told : (sh : Shape) (s z : List ℕ) (c r : ℕ) (new left : List ℕ) (a : Answer) (x : List ℕ) → sh ≡ sh₅ → s ≡ z → Holds (Case.raw_stores sh₅ z c r new left)
    → RawStore sh s c r new a x → (is_ok a ≡ true) × (x ≡ left)
store_told sh s z c r new left a x e i p h =
    let one = store_one sh₅ z c r new a (Ok tt) x left (at₅ (λ k y. RawStore k y c r new a x) sh s z e i h) p in
    (done a one.0, one.1)

pub check_told : (sh : Shape) (s z : List ℕ) (broken bits : ℕ) (r : Result Checked Refusal) → sh ≡ sh₅ → s ≡ z → Holds (Case.counts sh₅ z broken bits)
    → Check sh s r → r ≡ Ok (record { broken = broken; bits = bits })
check_told sh s z broken bits r e i p h = check_one sh₅ z r (Ok (record { broken = broken; bits = bits })) (at₅ (λ k y. Check k y r) sh s z e i h) p

pub locate_told : (sh : Shape) (s z : List ℕ) (damage : Damage) (r : Result Damage Refusal) → sh ≡ sh₅ → s ≡ z → Holds (Case.finds sh₅ z damage)
    → Locate sh s r → r ≡ Ok damage
locate_told sh s z damage r e i p h = locate_one sh₅ z r (Ok damage) (at₅ (λ k y. Locate k y r) sh s z e i h) p

-- equal results are alike for `==`
pub alike : {A : Type 0} (E : A → A → Bool) (F : Refusal → Refusal → Bool) (r : Result A Refusal) (x : A) → r ≡ Ok x → E x x ≡ true → result_eq E F r (Ok x) ≡ true
alike E F r x e same = rw e same
