-- Laws of filling: a symbol that is asked for has the place of the one that asks for it, so that the starts keep to themselves and to the column's room;
-- and all starts solve the column.
use mathlib.Core.Path.{◌≡◌, refl, sym, ap, ◌∙◌, subst}
use mathlib.Core.Logic.{◌≢◌, ◌⊎◌, inl, inr, ⊎_elim}
use mathlib.Core.List.{List}
use Prim.Native.Nat.{ℕ, suc, ◌+◌, ◌-◌, ◌*◌, ◌/◌, ◌%◌, ◌≤◌, ◌<◌}
use native.Mathlib.Nat.{mod-lt, div-add-mod', mul-le-mul_right}
use native.Mathlib.Omega.{arith}
use native.Mathlib.Decide.{dec_lt, ℕ_discrete}
use lib.Arith.{digits_mod}
use lib.ListN.{length, get_or}
use Rattle.xor.specs.Spanned.{Spanned}
use Rattle.shape.specs.Place.{place, byte}
use Rattle.shape.proofs.PlaceLaws.{place_up}
use Rattle.shape.proofs.Spans.{place_add, span_in, span_out}
use Rattle.solving.specs.declared.Gone.{Gone}
use Rattle.solving.specs.Outer.{base_of, spot, Stores, turned, Ready}
use Rattle.summing.specs.Sums.{Apart}
use Rattle.solving.specs.Alone.{Lone, SolvedAlone}
use Rattle.solving.proofs.AloneLaws.{front, column_fits, symbols_apart}
use Rattle.solving.proofs.StoresLaws.{OnWay, Stored, stores_keep, stores_bring}
use Rattle.filling.specs.Filling.{Fillable, Stands, Untouched, StandFrom, ColumnIn}

-- the height whose place the k-th symbol of the way from height d has
abbrev home : Gone → ℕ → ℕ → ℕ
home g d k = d + k / 2 * (2 * g.walk)

module _ (g : Gone) (side : ℕ) (s out : List ℕ) (r : Fillable g side s out) where
  module _ (d k i e : ℕ) (y : OnWay g side d k i e) where
    -- it is the symbol's own height or a walk below it
    home_le : home g d k ≤ e
    home_le =
        let f : k * g.walk ≡ (k / 2 * 2 + k % 2) * g.walk = ap (λ (z : ℕ). z * g.walk) (omega arith) in
        omega (arith, y.1)

    home_lt : home g d k < g.shape.m
    home_lt = omega (arith, home_le, y.2)

    -- and the two stand there: a walk below is as many symbols on as the other column begins behind
    spot_home : spot g i e ≡ place g.shape (home g d k) 0 0
    spot_home = at (ℕ_discrete i side)
      where
        at : Dec (i ≡ side) → spot g i e ≡ place g.shape (home g d k) 0 0
        at (yes q) =
            let f : k * g.walk ≡ k / 2 * 2 * g.walk = ap (λ (z : ℕ). z * g.walk) (omega (arith, y.0, r.side_is)) in
            let h : e ≡ home g d k = omega (arith, y.1) in
            omega (arith, ap (base_of g) q, r.own, ap (λ (z : ℕ). place g.shape z 0 0) h)
        at (no q) =
            let f : k * g.walk ≡ (k / 2 * 2 + 1) * g.walk = ap (λ (z : ℕ). z * g.walk) (omega (arith, y.0, r.side_is)) in
            let h : e ≡ home g d k + g.walk = omega (arith, y.1) in
            let o : i ≡ 1 - side = omega (arith, y.0, r.side_is) in
            omega (arith, ap (base_of g) o, r.other, ap (λ (z : ℕ). place g.shape z 0 0) h, place_up g.shape (home g d k) g.walk 0 0 (omega (arith, y.2)))

  -- ---- ready

  spot_fits : (d k : ℕ) → d + k * g.walk < g.shape.m
      → (spot g (turned k side) (d + k * g.walk) + g.shape.w ≤ length out) × (spot g (turned k side) (d + k * g.walk) + g.shape.w ≤ 262144)
  spot_fits d k l =
      let p = spot_home d k _ _ (refl, refl, l) in
      let f = front g.shape r.good (home g d k) (home_lt d k _ _ (refl, refl, l)) in
      (omega (arith, r.room), omega (arith, column_fits g.shape r.good))

  spots_apart : (d k : ℕ) → d + (k + 1) * g.walk < g.shape.m
      → Apart (spot g (turned k side) (d + k * g.walk)) (spot g (turned (k + 1) side) (d + (k + 1) * g.walk)) g.shape.w
  spots_apart d k l = at (ℕ_discrete (home g d k) (home g d (k + 1)))
    where
      lo : d + k * g.walk < g.shape.m
      lo = omega arith

      p : spot g (turned k side) (d + k * g.walk) ≡ place g.shape (home g d k) 0 0
      p = spot_home d k _ _ (refl, refl, lo)

      q : spot g (turned (k + 1) side) (d + (k + 1) * g.walk) ≡ place g.shape (home g d (k + 1)) 0 0
      q = spot_home d (k + 1) _ _ (refl, refl, l)

      at : Dec (home g d k ≡ home g d (k + 1)) → Apart (spot g (turned k side) (d + k * g.walk)) (spot g (turned (k + 1) side) (d + (k + 1) * g.walk)) g.shape.w
      at (yes z) = inr (inr (p ∙ ap (λ (h : ℕ). place g.shape h 0 0) z ∙ sym q))
      at (no z) =
          ⊎_elim (λ a. inl (omega (arith, p, q))) (λ a. inr (inl (omega (arith, p, q))))
          (symbols_apart g.shape r.good (home g d k) (home g d (k + 1)) (home_lt d k _ _ (refl, refl, lo)) (home_lt d (k + 1) _ _ (refl, refl, l)) z)

  pub fillable_ready : (d : ℕ) → d < g.shape.m → Ready g side d s out
  fillable_ready d hd = record {
    good = r.good;
    whole = r.whole;
    side_is = r.side_is;
    high = hd;
    column = r.column;
    other = r.two;
    near = r.near;
    short = r.short;
    room = spot_fits d;
    apart = spots_apart d;
  }

  -- ---- what a store leaves

  module _ (v : ℕ → ℕ → ℕ → ℕ) where
    module _ (d k i e : ℕ) (y : OnWay g side d k i e) (a b : List ℕ) (u : Stored g v i e a b) where
      stored_home : Spanned (v i e) a b (place g.shape (home g d k) 0 0) g.shape.w
      stored_home = subst (λ (z : ℕ). Spanned (v i e) a b z g.shape.w) (spot_home d k i e y) u

      -- every other symbol, and the rest of the buffer, as it was
      stored_else : (h : ℕ) → h < g.shape.m → h ≢ home g d k → Stands g v side h a → Stands g v side h b
      stored_else h hh ne q t ht = span_out g.shape (v i e) a b (home g d k) 0 0 g.shape.w stored_home (home_lt d k i e y) (omega arith) h 0 t hh ht (inl (inl ne)) ∙ q t ht

      stored_rest : Untouched g a b
      stored_rest j lo = u.rest j (inr (omega (arith, spot_home d k i e y, front g.shape r.good (home g d k) (home_lt d k i e y))))

      -- the symbol itself, if it is the side's
      stored_here : i ≡ side → home g d k ≡ e → Stands g v side e b
      stored_here p q =
          subst (λ (z : ℕ). Stands g v z e b) p
          (subst (λ (z : ℕ). (t : ℕ) → t < g.shape.w → byte g.shape b t z 0 ≡ v i e t) q
          (λ t ht. span_in g.shape (v i e) a b (home g d k) 0 0 g.shape.w stored_home t (omega arith) (omega arith) ∙ ap (v i e) (omega arith)))

    -- ---- what a start leaves

    module _ (out' : List ℕ) (left : ℕ) (hl : left < g.shape.m) (w : Stores g v side left out out') where
      pub stores_rest : Untouched g out out'
      stores_rest j lo =
          stores_keep g v (λ (z : List ℕ). get_or z j 0 ≡ get_or out j 0) r.side_is hl w (λ k i e y a b u q. stored_rest left k i e y a b u j lo ∙ q) refl

      -- the symbols of other starts as they were
      stores_else : (d : ℕ) → d < g.shape.m → left < d % (2 * g.walk) → Stands g v side d out → Stands g v side d out'
      stores_else d hd h =
          let less : d % (2 * g.walk) < 2 * g.walk = mod-lt d (omega (arith, r.near)) in
          stores_keep g v (Stands g v side d) r.side_is hl w (λ k i e y a b u. stored_else left k i e y a b u d hd (λ z.
          let f : d ≡ k / 2 * (2 * g.walk) + left = omega arith in
          omega (arith, ap (λ (x : ℕ). x % (2 * g.walk)) f, digits_mod (k / 2) {m = 2 * g.walk} {r = left} (omega arith))))

      -- its own symbols solved
      stores_own : (d q : ℕ) → d < g.shape.m → d ≡ left + q * (2 * g.walk) → Stands g v side d out'
      stores_own d q hd z =
          stores_bring g v (Stands g v side d) r.near r.side_is hl w (q * 2) (omega arith)
          (λ i e y a b u.
          let f : e ≡ d = omega (arith, y.1) in
          let k : q * 2 / 2 ≡ q = omega arith in
          subst (λ (x : ℕ). Stands g v side x b) f
          (stored_here left (q * 2) i e y a b u (omega (arith, y.0, r.side_is)) (omega (arith, ap (λ (x : ℕ). x * (2 * g.walk)) k))))
          (λ j i e h y a b u. stored_else left j i e y a b u d hd (λ x.
          let l : j / 2 + 1 ≤ q = omega arith in
          omega (arith, mul-le-mul_right (2 * g.walk) l, r.near)))

      -- a start, after those above it
      pub stand_step : (last : ℕ) → last ≤ suc left → StandFrom g v side last out → StandFrom g v side left out'
      stand_step last hb before d hd l = at (dec_lt left (d % (2 * g.walk)))
        where
          at : Dec (left < d % (2 * g.walk)) → Stands g v side d out'
          at (yes h) = stores_else d hd h (before d hd (omega arith))
          at (no h) = stores_own d (d / (2 * g.walk)) hd (omega (arith, div-add-mod' d (2 * g.walk)))

    -- no height leaves two walks, or its own number of heights
    pub stand_none : (left : ℕ) → (left ≡ 2 * g.walk) ⊎ (left ≡ g.shape.m) → StandFrom g v side left out
    stand_none left e d hd l =
        let a : d % (2 * g.walk) < 2 * g.walk = mod-lt d (omega (arith, r.near)) in
        let b = div-add-mod' d (2 * g.walk) in
        absurd (⊎_elim (λ z. omega arith) (λ z. omega arith) e)

  -- ---- a column that asks for nothing

  pub fillable_lone : g.shape.m ≤ g.walk → Lone g side s out
  fillable_lone far = record {
    good = r.good;
    whole = r.whole;
    side_is = r.side_is;
    column = r.column;
    far = far;
    short = r.short;
    room = omega (arith, r.own, r.room);
  }

  pub column_alone : (v : ℕ → ℕ → ℕ → ℕ) (out' : List ℕ) → SolvedAlone g v side out out' → ColumnIn g v side out out'
  unfolding byte
  column_alone v out' u = record {
    front = λ d hd t ht.
        let z : 0 + t ≡ t = omega arith in
        ap (λ (i : ℕ). get_or out' i 0) (omega (arith, r.own, place_add g.shape d 0 0 t, ap (place g.shape d 0) z)) ∙ u.column d hd t ht;
    rest = λ i lo. u.rest i (inr (omega (arith, r.own)));
  }

-- a buffer as long
pub fillable_like : (g : Gone) (side : ℕ) (s out out' : List ℕ) → length out' ≡ length out → Fillable g side s out → Fillable g side s out'
fillable_like g side s out out' e r = record {
  good = r.good;
  whole = r.whole;
  side_is = r.side_is;
  column = r.column;
  two = r.two;
  near = r.near;
  short = r.short;
  own = r.own;
  other = r.other;
  room = omega (arith, r.room);
}
