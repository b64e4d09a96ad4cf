-- For the functions of locate: yes and no, two chains stretch by stretch, chains by their distance from a column and by their bits, and what was found.
use mathlib.Core.Path.{◌≡◌, refl, sym, ap, ◌∙◌, subst}
use mathlib.Core.Logic.{◌↔◌, ◌≢◌, inl, inr, ⊎_elim}
use mathlib.Core.Bool.{Bool, true, false}
use mathlib.Core.List.{List}
use Prim.Native.Nat.{ℕ, ◌+◌, ◌-◌, ◌%◌, ◌≤◌, ◌<◌}
use native.Mathlib.Omega.{arith}
use native.Mathlib.Decide.{dec_lt}
use lib.Count.{ones}
use lib.ListN.{length}
use Rattle.xor.specs.Tells.{Tells}
use Rattle.xor.proofs.TotalLaws.{total_zero, total_same}
use Rattle.looking.proofs.OnesLaws.{ones_zero, ones_none, total_clear}
use Rattle.xor.proofs.TellsLaws.{tells_false}
use Rattle.shape.specs.declared.Shape.{Shape}
use Rattle.shape.specs.Good.{Good, size}
use Rattle.shape.specs.Step.{left, right}
use Rattle.shape.proofs.StepLaws.{Reach, turn, back, far, left_is, right_is}
use Rattle.shape.proofs.GoodLaws.{good_m, good_room}
use Rattle.rule.specs.Rule.{Obeys, differs}
use Rattle.rule.specs.Losses.{Bytes}
use Rattle.rule.proofs.RuleLaws.{obeys_differs}
use Rattle.checking.specs.Bits.{Chain, Bits}
use Rattle.locating.specs.Locate.{Explains, Mends, Names}
use Rattle.locating.specs.Locating.{Level, Compares, Holds, Alike, Apart, Unbroken, Within, Searched}
use Rattle.locating.proofs.Explains.{explains_is_mends}

-- the two chains that were asked of, under other names
pub tells_both : (sh : Shape) (s : List ℕ) {p p' q q' : ℕ} {r : Bool} → p' ≡ p → q' ≡ q → Tells (Alike sh s p' q') r → Tells (Alike sh s p q) r
tells_both sh s {p} {p'} {q} {q'} {r} e f h = subst (λ (y : ℕ). Tells (Alike sh s p y) r) f (subst (λ (x : ℕ). Tells (Alike sh s x q') r) e h)

-- ---- the bytes of two chains, one stretch after another

module _ (sh : Shape) (s : List ℕ) (p q from len : ℕ) where
  -- a stretch, by its own bytes
  abbrev pub Pieces : Type 0
  Pieces = (t : ℕ) → t < len → differs sh s p (from + t) ≡ differs sh s q (from + t)

  pieces_level : Pieces → Level sh s p q from (from + len)
  pieces_level h t lo hi = let e : from + (t - from) ≡ t = omega arith in subst (λ (u : ℕ). differs sh s p u ≡ differs sh s q u) e (h (t - from) (omega arith))

  pub compares_yes : {x : Bool} → Pieces → Compares sh s p q from (from + len) x x
  compares_yes h = record { yes = λ e. (e, pieces_level h); no = λ z. z.0 }

  pub compares_no : {x : Bool} → ¬ Pieces → Compares sh s p q from (from + len) x false
  compares_no h = tells_false (λ z. h (λ t l. z.1 (from + t) (omega arith) (omega arith)))

pub level_then : (sh : Shape) (s : List ℕ) (p q a b : ℕ) {x y : Bool} → a ≤ b → Tells (Level sh s p q 0 a) x → Compares sh s p q a b x y → Tells (Level sh s p q 0 b) y
level_then sh s p q a b {x} l h g = record {
  yes = λ e t lo hi. at t hi (g.yes e) (dec_lt t a);
  no = λ all. g.no (h.no (λ t lo hi. all t lo (omega arith)), λ t lo hi. all t (omega arith) hi);
}
  where
    at : (t : ℕ) → t < b → (x ≡ true) × Level sh s p q a b → Dec (t < a) → differs sh s p t ≡ differs sh s q t
    at t hi z (yes k) = h.yes z.0 t (omega arith) k
    at t hi z (no k) = z.1 t (omega arith) hi

-- ---- chain p and column c, by the steps from c up to p

module _ (sh : Shape) (good : Good sh) (c p : ℕ) (hc : c < sh.n) (hp : p < sh.n) where
  -- the steps from c up to p
  steps : ℕ
  steps = (p + (sh.n - c)) % sh.n

  reach : (steps < sh.n) × Reach sh.n c steps p
  unfolding steps
  reach =
      let h = turn sh.n (p + (sh.n - c)) (omega arith) in
      (h.0, ⊎_elim (λ u. inr (omega arith)) (λ u. inl (omega arith)) h.1)

  pub apart_below : (p + (sh.n - c)) % sh.n < sh.m → ¬ Apart sh c p
  unfolding steps
  apart_below l out = (out steps l).1 (sym (right_is sh.m sh.n c p steps steps (good_room sh good) hc hp l l reach.1))

  pub apart_above : sh.n - (p + (sh.n - c)) % sh.n < sh.m → ¬ Apart sh c p
  unfolding steps
  apart_above l out =
      (out (sh.n - steps) l).0
      (sym (left_is sh.m sh.n c p (sh.n - steps) (sh.n - steps) (good_room sh good) hc hp l l (back sh.n c steps p (omega (arith, reach.0)) reach.1)))

  pub apart_far : sh.m ≤ (p + (sh.n - c)) % sh.n → sh.m ≤ sh.n - (p + (sh.n - c)) % sh.n → Apart sh c p
  unfolding steps
  apart_far lo hi d hd =
      let z = far sh.m sh.n c p steps hc reach.1 lo (omega (arith, reach.0)) d hd in ((λ e. z.0 (sym e)), (λ e. z.1 (sym e)))

-- ---- bits

module _ (sh : Shape) (s : List ℕ) where
  -- a chain that holds differs by no bit, and a chain that differs by none holds
  holds_bits : (p x : ℕ) → Chain sh s p x → Holds sh s p → x ≡ 0
  holds_bits p x h k = h.0 ∙ total_zero sh.w (λ t. ones (differs sh s p t)) (λ t l. ap ones (k t l) ∙ ones_zero)

  bits_holds : (p x : ℕ) → Chain sh s p x → x ≡ 0 → Holds sh s p
  bits_holds p x h e t l = ones_none _ (total_clear sh.w (λ t. ones (differs sh s p t)) (sym h.0 ∙ e) t l)

  -- chains of different bits do not differ alike; two without any do
  pub bits_apart : (p q x y : ℕ) → Chain sh s p x → Chain sh s q y → x ≢ y → ¬ Alike sh s p q
  bits_apart p q x y h k ne a =
      ne (h.0 ∙ total_same sh.w (λ t. ones (differs sh s p t)) (λ t. ones (differs sh s q t)) (λ t l. ap ones (a t l)) ∙ sym k.0)

  pub bits_alike : (p q x y : ℕ) → Chain sh s p x → Chain sh s q y → x ≡ y → x ≡ 0 → Alike sh s p q
  bits_alike p q x y h k e z t l = bits_holds p x h z t l ∙ sym (bits_holds q y k (sym e ∙ z) t l)

  -- ---- columns

  module _ (xs : List ℕ) (bits : Bits sh s xs) where
    pub explains_within : (c : ℕ) → Explains sh s c → Within sh xs c
    explains_within c ex p hp out = holds_bits p _ (bits.at p hp) (λ t ht. ex.outside p t hp ht out)

    pub within_explains : (c : ℕ) → Within sh xs c → ((d : ℕ) → 1 ≤ d → d < sh.m → Alike sh s (left sh.n c d) (right sh.n c d)) → Explains sh s c
    within_explains c wi al = record {
      pairs = λ d t lo hd ht. al d lo hd t ht;
      outside = λ p t hp ht out. bits_holds p _ (bits.at p hp) (wi p hp out) t ht;
    }

    -- ---- what was found

    obeys_unbroken : Obeys sh s → Unbroken sh xs
    obeys_unbroken ob p hp = holds_bits p _ (bits.at p hp) (λ t ht. (obeys_differs sh s).0 ob p t hp ht)

    pub names_sound : Unbroken sh xs → Names sh s (0, 0)
    names_sound un = inl (refl, (obeys_differs sh s).1 (λ p t hp ht. bits_holds p _ (bits.at p hp) (un p hp) t ht))

    module _ (good : Good sh) (whole : length s ≡ size sh) (bytes : Bytes s) (bad : ¬ Unbroken sh xs) where
      mends : (c : ℕ) → c < sh.n → Explains sh s c ↔ Mends sh s c
      mends c hc = explains_is_mends sh (good_m sh good) (good_room sh good) s whole c hc bytes

      pub names_searched : (x : ℕ × ℕ) → Searched sh s x → Names sh s x
      names_searched x (inl h) = inr (inl (h.0, (λ ob. bad (obeys_unbroken ob)), (mends x.1 h.1).0 h.2))
      names_searched x (inr h) = inr (inr (h.0, (λ ob. bad (obeys_unbroken ob)), λ c z. h.1 c z.0 ((mends c z.0).1 z)))
