-- A span of a symbol's bytes in a stripe: those bytes are the new ones, and every other byte of every symbol is as it was.
use mathlib.Core.Path.{◌≡◌, sym, ap, ◌∙◌}
use mathlib.Core.Logic.{◌≢◌, ◌⊎◌, inl, inr, ⊎_elim}
use mathlib.Core.List.{List}
use Prim.Native.Nat.{ℕ, ◌+◌, ◌-◌, ◌≤◌, ◌<◌}
use native.Mathlib.Nat.{add_assoc}
use native.Mathlib.Omega.{arith}
use native.Mathlib.Decide.{dec_lt}
use lib.ListN.{get_or}
use Rattle.xor.specs.Spanned.{Spanned}
use Rattle.shape.specs.declared.Shape.{Shape}
use Rattle.shape.specs.Place.{place, byte}
use Rattle.shape.proofs.PlaceLaws.{place_apart}

-- a place, and so many bytes further
pub place_add : (sh : Shape) (d c t u : ℕ) → place sh d c t + u ≡ place sh d c (t + u)
unfolding place
place_add sh d c t u = add_assoc _ t u

module _ (sh : Shape) (f : ℕ → ℕ) (s s' : List ℕ) (d c from len : ℕ) (span : Spanned f s s' (place sh d c from) len) where
  pub span_in : (t : ℕ) → from ≤ t → t < from + len → byte sh s' t d c ≡ f (t - from)
  unfolding byte
  span_in t lo hi =
      let e : from + (t - from) ≡ t = omega arith in
      ap (λ (i : ℕ). get_or s' i 0) (sym (place_add sh d c from (t - from) ∙ ap (place sh d c) e)) ∙ span.at (t - from) (omega arith)

  pub span_out : d < sh.m → from + len ≤ sh.w → (e j t : ℕ) → e < sh.m → t < sh.w
      → ((e ≢ d) ⊎ (j ≢ c)) ⊎ ((t < from) ⊎ (from + len ≤ t)) → byte sh s' t e j ≡ byte sh s t e j
  unfolding byte
  span_out hd fit e j t he ht other = span.rest i (at (dec_lt i (place sh d c from)) (dec_lt i (place sh d c from + len)))
    where
      i : ℕ
      i = place sh e j t

      -- where it would stand within the span it would be a byte of it
      within : place sh d c from ≤ i → i < place sh d c from + len → ⊥
      within lo hi =
          let k : ℕ = i - place sh d c from in
          let z : place sh e j t ≡ place sh d c (from + k) = (omega arith) ∙ place_add sh d c from k in
          let q = place_apart sh e j t d c (from + k) he ht hd (omega arith) z in
          ⊎_elim (⊎_elim (λ u. u q.0) (λ u. u q.1)) (⊎_elim (λ u. omega (arith, q.2)) (λ u. omega (arith, q.2))) other

      at : Dec (i < place sh d c from) → Dec (i < place sh d c from + len) → (i < place sh d c from) ⊎ (place sh d c from + len ≤ i)
      at (yes h) k = inl h
      at (no h) (yes k) = absurd (within (omega arith) k)
      at (no h) (no k) = inr (omega arith)
