-- Laws of the outer-chain order under way: what is asked for is ready too, the stores end with the symbol's own, and that is the solved one.
use mathlib.Core.Path.{◌≡◌, sym, ap, ap₂, ◌∙◌, subst}
use mathlib.Core.Bool.{cond}
use mathlib.Core.List.{List}
use Prim.Native.Nat.{ℕ, zero, suc, ◌+◌, ◌-◌, ◌*◌, ◌≤◌, ◌<◌}
use native.Mathlib.Omega.{arith}
use lib.Dec.{ltb}
use lib.ListN.{length, get_or}
use Rattle.xor.specs.Xor.{◌⊕◌}
use Rattle.xor.specs.Spanned.{Spanned}
use Rattle.xor.proofs.Span.{span_same}
use Rattle.shape.specs.Place.{byte}
use Rattle.rule.proofs.Solve.{cond_cong}
use Rattle.solving.specs.declared.Gone.{Gone}
use Rattle.sourcing.specs.Sources.{besides}
use Rattle.solving.specs.Outer.{column_of, spot, chain_of, Solved, Stores, alone, after, turned, Ready}
use Rattle.summing.specs.Sums.{Apart}

-- ---- ready

module _ (g : Gone) (side d : ℕ) (s out : List ℕ) (r : Ready g side d s out) where
  back : 1 - (1 - side) ≡ side
  back = omega (arith, r.side_is)

  -- the side itself
  pub ready_room : (spot g side d + g.shape.w ≤ length out) × (spot g side d + g.shape.w ≤ 262144)
  ready_room =
      let e : turned 0 side ≡ side = omega (arith, r.side_is) in
      let f : d + 0 * g.walk ≡ d = omega arith in
      subst (λ (z : ℕ). (spot g z d + g.shape.w ≤ length out) × (spot g z d + g.shape.w ≤ 262144)) e
      (subst (λ (z : ℕ). (spot g (turned 0 side) z + g.shape.w ≤ length out) × (spot g (turned 0 side) z + g.shape.w ≤ 262144)) f (r.room 0 (omega (arith, r.high))))

  module _ (h : d + g.walk < g.shape.m) where
    step : (k : ℕ) → d + (k + 1) * g.walk ≡ d + g.walk + k * g.walk
    step k = omega arith

    turn : (k : ℕ) → turned (k + 1) side ≡ turned k (1 - side)
    turn k = omega (arith, r.side_is)

    -- the other side, which is asked for
    pub ready_next : Ready g (1 - side) (d + g.walk) s out
    ready_next = record {
      good = r.good;
      whole = r.whole;
      side_is = omega arith;
      high = h;
      column = r.other (omega arith);
      other = λ z. subst (λ (i : ℕ). column_of g i < g.shape.n) (sym back) r.column;
      near = r.near;
      short = r.short;
      room = λ k l.
          subst (λ (z : ℕ). (spot g z (d + g.walk + k * g.walk) + g.shape.w ≤ length out) × (spot g z (d + g.walk + k * g.walk) + g.shape.w ≤ 262144)) (turn k)
          (subst (λ (z : ℕ). (spot g (turned (k + 1) side) z + g.shape.w ≤ length out) × (spot g (turned (k + 1) side) z + g.shape.w ≤ 262144)) (step k)
          (r.room (k + 1) (omega (arith, step k))));
      apart = λ k l.
          subst (λ (z : ℕ). Apart (spot g z (d + g.walk + k * g.walk)) (spot g (turned (k + 1) (1 - side)) (d + g.walk + (k + 1) * g.walk)) g.shape.w) (turn k)
          (subst (λ (z : ℕ). Apart (spot g (turned (k + 1) side) (d + g.walk + k * g.walk)) (spot g z (d + g.walk + (k + 1) * g.walk)) g.shape.w) (turn (k + 1))
          (subst (λ (z : ℕ). Apart (spot g (turned (k + 1) side) z) (spot g (turned (k + 1 + 1) side) (d + g.walk + (k + 1) * g.walk)) g.shape.w) (step k)
          (subst (λ (z : ℕ). Apart (spot g (turned (k + 1) side) (d + (k + 1) * g.walk)) (spot g (turned (k + 1 + 1) side) z) g.shape.w) (step (k + 1))
          (r.apart (k + 1) (omega (arith, step (k + 1)))))));
    }

    pub ready_apart : Apart (spot g side d) (spot g (1 - side) (d + g.walk)) g.shape.w
    ready_apart =
        let e : turned 0 side ≡ side = omega (arith, r.side_is) in
        let e₁ : turned (0 + 1) side ≡ 1 - side = omega (arith, r.side_is) in
        let f : d + 0 * g.walk ≡ d = omega arith in
        let f₁ : d + (0 + 1) * g.walk ≡ d + g.walk = omega arith in
        subst (λ (z : ℕ). Apart (spot g z d) (spot g (1 - side) (d + g.walk)) g.shape.w) e
        (subst (λ (z : ℕ). Apart (spot g (turned 0 side) d) (spot g z (d + g.walk)) g.shape.w) e₁
        (subst (λ (z : ℕ). Apart (spot g (turned 0 side) z) (spot g (turned (0 + 1) side) (d + g.walk)) g.shape.w) f
        (subst (λ (z : ℕ). Apart (spot g (turned 0 side) (d + 0 * g.walk)) (spot g (turned (0 + 1) side) z) g.shape.w) f₁
        (r.apart 0 (omega arith)))))

-- ---- the stores

-- the last of them is the symbol's own
pub stores_here : (g : Gone) (v : ℕ → ℕ → ℕ → ℕ) {side d : ℕ} {out out' : List ℕ} → Stores g v side d out out'
    → (t : ℕ) → t < g.shape.w → get_or out' (spot g side d + t) 0 ≡ v side d t
stores_here g v (alone side d out out' far u) t l = u.at t l
stores_here g v (after side d out mid out' near w u) t l = u.at t l

-- the k-th symbol of the way from a side's symbol of height d is that of height e of side i; and it is stored
abbrev pub OnWay : Gone → ℕ → ℕ → ℕ → ℕ → ℕ → Type 0
OnWay g side d k i e = (i ≡ turned k side) × (e ≡ d + k * g.walk) × (e < g.shape.m)

abbrev pub Stored : Gone → (ℕ → ℕ → ℕ → ℕ) → ℕ → ℕ → List ℕ → List ℕ → Type 0
Stored g v i e out out' = Spanned (v i e) out out' (spot g i e) g.shape.w

module _ (g : Gone) (v : ℕ → ℕ → ℕ → ℕ) (Q : List ℕ → Type 0) where
  -- what each store of the way keeps is kept
  pub stores_keep : {side d : ℕ} {out out' : List ℕ} → side ≤ 1 → d < g.shape.m → Stores g v side d out out'
      → ((k i e : ℕ) → OnWay g side d k i e → (a b : List ℕ) → Stored g v i e a b → Q a → Q b) → Q out → Q out'
  stores_keep hs hd (alone side d out out' far u) keep q = keep 0 side d (omega arith, omega arith, hd) out out' u q
  stores_keep hs hd (after side d out mid out' near w u) keep q =
      keep 0 side d (omega arith, omega arith, hd) mid out' u
      (stores_keep (omega arith) near w (λ k i e y. keep (suc k) i e (omega arith, omega arith, y.2)) q)

  -- what the k-th store brings about, and those after it keep, holds in the end; after it are those of the symbols that lead to it
  pub stores_bring : {side d : ℕ} {out out' : List ℕ} → 1 ≤ g.walk → side ≤ 1 → d < g.shape.m → Stores g v side d out out' → (k : ℕ) → d + k * g.walk < g.shape.m
      → ((i e : ℕ) → OnWay g side d k i e → (a b : List ℕ) → Stored g v i e a b → Q b)
      → ((j i e : ℕ) → j < k → OnWay g side d j i e → (a b : List ℕ) → Stored g v i e a b → Q a → Q b) → Q out'
  stores_bring lo hs hd (alone side d out out' far u) zero l here keep = here side d (omega arith, omega arith, hd) out out' u
  stores_bring lo hs hd (alone side d out out' far u) (suc k) l here keep = absurd (omega arith)
  stores_bring lo hs hd (after side d out mid out' near w u) zero l here keep = here side d (omega arith, omega arith, hd) mid out' u
  stores_bring lo hs hd (after side d out mid out' near w u) (suc k) l here keep =
      keep 0 side d (omega arith) (omega arith, omega arith, hd) mid out' u
      (stores_bring lo (omega arith) near w k (omega arith) (λ i e y. here i e (omega arith, omega arith, y.2))
      (λ j i e h y. keep (suc j) i e (omega arith) (omega arith, omega arith, y.2)))

module _ (g : Gone) (s : List ℕ) (v : ℕ → ℕ → ℕ → ℕ) (sol : Solved g s v) (side d : ℕ) (hs : side ≤ 1) (hc : column_of g side < g.shape.n) (hd : d < g.shape.m)
    (p b at : ℕ) (ep : p ≡ chain_of g side d) (ea : at ≡ spot g side d) (out mid out' : List ℕ)
    (u : Spanned (λ t. besides g.shape.m g.shape.n (byte g.shape s t) p side d side (d + g.walk) ⊕ cond (ltb (d + g.walk) g.shape.m) (get_or mid (b + t) 0) 0) mid out' at g.shape.w) where
  -- `own` stores the solved symbol, if what it asks for is solved
  pub solved_own : (d + g.walk < g.shape.m → (t : ℕ) → t < g.shape.w → get_or mid (b + t) 0 ≡ v (1 - side) (d + g.walk) t)
      → Spanned (v side d) mid out' (spot g side d) g.shape.w
  solved_own asked = span_same (v side d) u ea (λ t l.
      ap₂ ◌⊕◌ (ap (λ (q : ℕ). besides g.shape.m g.shape.n (byte g.shape s t) q side d side (d + g.walk)) ep)
      (cond_cong (d + g.walk) g.shape.m (get_or mid (b + t) 0) (v (1 - side) (d + g.walk) t) (λ h. asked h t l))
      ∙ sym (sol.each side d t hs hc hd l))

  pub stores_alone : g.shape.m ≤ d + g.walk → Stores g v side d mid out'
  stores_alone far = alone side d mid out' far (solved_own (λ h. absurd (omega arith)))

  pub stores_after : d + g.walk < g.shape.m → b ≡ spot g (1 - side) (d + g.walk) → Stores g v (1 - side) (d + g.walk) out mid → Stores g v side d out out'
  stores_after near eb w =
      after side d out mid out' near w (solved_own (λ h t l. ap (λ (i : ℕ). get_or mid (i + t) 0) eb ∙ stores_here g v w t l))
