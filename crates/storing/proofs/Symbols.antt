-- A symbol's bytes as a span of the stripe: two symbols' spans are apart, and a span stored at a symbol's place is that symbol stored.
use mathlib.Core.Path.{◌≡◌, sym, ap, ◌∙◌}
use mathlib.Core.Logic.{◌≢◌, ◌⊎◌, inl, inr, ⊎_elim}
use mathlib.Core.List.{List}
use Prim.Native.Nat.{ℕ, ◌+◌, ◌-◌, ◌≤◌, ◌<◌}
use native.Mathlib.Omega.{arith}
use native.Mathlib.Decide.{dec_le}
use lib.ListN.{get_or}
use Rattle.xor.specs.Spanned.{Spanned}
use Rattle.shape.specs.declared.Shape.{Shape}
use Rattle.shape.specs.Place.{place, byte}
use Rattle.shape.proofs.PlaceLaws.{place_apart}
use Rattle.shape.proofs.Spans.{place_add, span_in, span_out}

module _ (sh : Shape) where
  -- byte t of a symbol, by where the symbol starts
  pub byte_add : (s : List ℕ) (d c t : ℕ) → byte sh s t d c ≡ get_or s (place sh d c 0 + t) 0
  unfolding byte
  byte_add s d c t = ap (λ (i : ℕ). get_or s i 0) (sym (place_add sh d c 0 t ∙ ap (place sh d c) (omega arith)))

  -- the spans of two symbols do not meet
  pub symbol_apart : (d c e j : ℕ) → d < sh.m → e < sh.m → 0 < sh.w → (e ≢ d) ⊎ (j ≢ c)
      → (place sh e j 0 + sh.w ≤ place sh d c 0) ⊎ (place sh d c 0 + sh.w ≤ place sh e j 0)
  symbol_apart d c e j hd he hw ne = at (dec_le (place sh e j 0 + sh.w) (place sh d c 0)) (dec_le (place sh d c 0 + sh.w) (place sh e j 0))
    where
      x : ℕ
      x = place sh e j 0

      y : ℕ
      y = place sh d c 0

      -- where they meet, the later of the two starts in the other
      meets : (t u : ℕ) → t < sh.w → u < sh.w → x + t ≢ y + u
      meets t u ht hu z =
          let (p, q, r) = place_apart sh e j (0 + t) d c (0 + u) he (omega arith) hd (omega arith) (sym (place_add sh e j 0 t) ∙ z ∙ place_add sh d c 0 u) in
          ⊎_elim (λ f. f p) (λ f. f q) ne

      at : Dec (x + sh.w ≤ y) → Dec (y + sh.w ≤ x) → (x + sh.w ≤ y) ⊎ (y + sh.w ≤ x)
      at (yes h) k = inl h
      at (no h) (yes k) = inr k
      at (no h) (no k) = later (dec_le x y)
        where
          later : Dec (x ≤ y) → (x + sh.w ≤ y) ⊎ (y + sh.w ≤ x)
          later (yes l) = absurd (meets (y - x) 0 (omega arith) hw (omega arith))
          later (no l) = absurd (meets 0 (x - y) hw (omega arith) (omega arith))

  -- what is stored at a symbol's place is that symbol, and every other symbol is as it was
  module _ (f : ℕ → ℕ) (s s' : List ℕ) (d c : ℕ) (hd : d < sh.m) (u : Spanned f s s' (place sh d c 0) sh.w) where
    pub symbol_new : (t : ℕ) → t < sh.w → byte sh s' t d c ≡ f t
    symbol_new t ht = span_in sh f s s' d c 0 sh.w u t (omega arith) (omega arith) ∙ ap f (omega arith)

    pub symbol_rest : (e j t : ℕ) → e < sh.m → t < sh.w → (e ≢ d) ⊎ (j ≢ c) → byte sh s' t e j ≡ byte sh s t e j
    symbol_rest e j t he ht ne = span_out sh f s s' d c 0 sh.w u hd (omega arith) e j t he ht (inl ne)
