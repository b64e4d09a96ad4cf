-- Laws of a column solved alone: its symbols have each their room, and one that is solved leaves the others as they are.
use mathlib.Core.Path.{◌≡◌, sym, ap, ◌∙◌, subst}
use mathlib.Core.Logic.{◌≢◌, ◌⊎◌, inl, inr, ⊎_elim}
use mathlib.Core.List.{List}
use Prim.Native.Nat.{ℕ, suc, ◌+◌, ◌-◌, ◌≤◌, ◌<◌}
use native.Mathlib.Omega.{arith}
use native.Mathlib.Decide.{dec_le, ℕ_discrete}
use lib.ListN.{length, get_or}
use Rattle.xor.specs.Spanned.{Spanned}
use Rattle.shape.specs.declared.Shape.{Shape}
use Rattle.shape.specs.Good.{Good, most}
use Rattle.shape.specs.Place.{place, column_length}
use Rattle.shape.proofs.GoodLaws.{good_m, good_w, good_wide}
use Rattle.shape.proofs.PlaceLaws.{front_lt, place_apart, place_lt}
use Rattle.shape.proofs.Spans.{place_add}
use Rattle.solving.specs.declared.Gone.{Gone}
use Rattle.solving.specs.Outer.{spot}
use Rattle.solving.specs.Alone.{Lone, Right, Kept}

-- ---- a column's symbols

module _ (sh : Shape) (good : Good sh) where
  -- a symbol ends inside its column
  pub front : (d : ℕ) → d < sh.m → place sh d 0 0 + sh.w ≤ column_length sh
  front d hd =
      let w : 0 < sh.w = good_w sh good in
      let e : 0 + (sh.w - 1) ≡ sh.w - 1 = omega arith in
      omega (arith, front_lt sh d (sh.w - 1) hd (omega arith), place_add sh d 0 0 (sh.w - 1) ∙ ap (place sh d 0) e)

  -- and that inside the largest stripe
  pub column_fits : column_length sh ≤ most
  unfolding place
  column_fits = omega (arith, place_lt sh 0 1 0 (good_m sh good) (omega (arith, good_wide sh good, good.m_fits.0)) (good_w sh good), good.all_fits)

  -- two of them do not meet
  pub symbols_apart : (d e : ℕ) → d < sh.m → e < sh.m → d ≢ e → (place sh d 0 0 + sh.w ≤ place sh e 0 0) ⊎ (place sh e 0 0 + sh.w ≤ place sh d 0 0)
  symbols_apart d e hd he ne = at (dec_le (a + sh.w) b) (dec_le (b + sh.w) a)
    where
      a : ℕ
      a = place sh d 0 0

      b : ℕ
      b = place sh e 0 0

      -- else one would start inside the other
      meet : (d e k : ℕ) → d < sh.m → e < sh.m → k < sh.w → place sh d 0 0 + k ≡ place sh e 0 0 → d ≡ e
      meet d e k hd he hk z =
          (place_apart sh d 0 (0 + k) e 0 0 hd (omega arith) he (good_w sh good) (sym (place_add sh d 0 0 k) ∙ z)).0

      at : Dec (a + sh.w ≤ b) → Dec (b + sh.w ≤ a) → (a + sh.w ≤ b) ⊎ (b + sh.w ≤ a)
      at (yes l) k = inl l
      at (no l) (yes k) = inr k
      at (no l) (no k) = on (dec_le a b)
        where
          on : Dec (a ≤ b) → (a + sh.w ≤ b) ⊎ (b + sh.w ≤ a)
          on (yes h) = absurd (ne (meet d e (b - a) hd he (omega arith) (omega arith)))
          on (no h) = absurd (ne (sym (meet e d (a - b) he hd (omega arith) (omega arith))))

-- ---- a column solved alone

-- the symbols stand whose height is not below `left`
abbrev pub RightFrom : Gone → (ℕ → ℕ → ℕ → ℕ) → ℕ → ℕ → List ℕ → Type 0
RightFrom g v side left out = (d : ℕ) → left ≤ d → d < g.shape.m → Right g v side d out

module _ (g : Gone) (side : ℕ) (s out : List ℕ) (r : Lone g side s out) where
  pub lone_room : (d : ℕ) → d < g.shape.m → spot g side d + g.shape.w ≤ length out
  lone_room d hd = omega (arith, r.room, front g.shape r.good d hd)

  pub lone_like : (out' : List ℕ) → length out' ≡ length out → Lone g side s out'
  lone_like out' e = record {
    good = r.good;
    whole = r.whole;
    side_is = r.side_is;
    column = r.column;
    far = r.far;
    short = r.short;
    room = omega (arith, r.room);
  }

  module _ (v : ℕ → ℕ → ℕ → ℕ) (d : ℕ) (hd : d < g.shape.m) (out' : List ℕ) (u : Spanned (v side d) out out' (spot g side d) g.shape.w) where
    -- the symbol of height d, after those above it
    pub right_step : (last : ℕ) → last ≤ suc d → RightFrom g v side last out → RightFrom g v side d out'
    right_step last hl before e lo he t ht = at (ℕ_discrete e d)
      where
        at : Dec (e ≡ d) → get_or out' (spot g side e + t) 0 ≡ v side e t
        at (yes q) = subst (λ (z : ℕ). get_or out' (spot g side z + t) 0 ≡ v side z t) (sym q) (u.at t ht)
        at (no q) =
            u.rest (spot g side e + t) (⊎_elim (λ l. inr (omega arith)) (λ l. inl (omega arith)) (symbols_apart g.shape r.good d e hd he (λ z. q (sym z))))
            ∙ before e (omega arith) he t ht

    pub kept_step : Kept g side out out'
    kept_step i o =
        let f = front g.shape r.good d hd in
        u.rest i (⊎_elim (λ l. inl (omega arith)) (λ l. inr (omega arith)) o)
