-- What `change` leaves at a parity symbol's place: the change carried.
use mathlib.Core.Path.{◌≡◌, sym, ap, ap₂, ◌∙◌}
use mathlib.Core.Logic.{◌⊎◌, inl, inr, ⊎_elim}
use mathlib.Core.List.{List}
use Prim.Native.Nat.{ℕ, ◌+◌, ◌-◌, ◌≤◌, ◌<◌}
use native.Mathlib.Omega.{arith}
use lib.ListN.{length, get_or, take, drop}
use Rattle.xor.specs.Xor.{◌⊕◌}
use Rattle.xor.specs.Spanned.{Spanned, change_of}
use Rattle.shape.specs.declared.Shape.{Shape}
use Rattle.shape.specs.Place.{place}
use Rattle.storing.proofs.SetLaws.{span_rest, rest_at}
use Rattle.storing.proofs.Symbols.{byte_add, symbol_new, symbol_rest}
use Rattle.writing.specs.Carried.{Carried}

module _ (s x : List ℕ) (at from len : ℕ) (apart : (at + len ≤ from) ⊎ (from + len ≤ at)) where
  -- what is changed up to `done` leaves the bytes beyond it as they were
  pub change_on : (s₁ : List ℕ) (done : ℕ) → Spanned (change_of s at from x) s s₁ at done → (t v : ℕ) → done + t < len
      → get_or s₁ (at + done + t) 0 ⊕ (get_or s₁ (from + done + t) 0 ⊕ v) ≡ get_or s (at + (done + t)) 0 ⊕ (get_or s (from + (done + t)) 0 ⊕ v)
  change_on s₁ done u t v h =
      let a : at + done + t ≡ at + (done + t) = omega arith in
      let f : from + done + t ≡ from + (done + t) = omega arith in
      ap₂ (λ (y z : ℕ). y ⊕ (z ⊕ v)) (ap (λ (i : ℕ). get_or s₁ i 0) a ∙ u.rest _ (inr (omega arith)))
      (ap (λ (i : ℕ). get_or s₁ i 0) f ∙ u.rest _ (⊎_elim (λ l. inr (omega arith)) (λ l. inl (omega arith)) apart))

  -- the whole blocks, and the rest after them
  pub change_rest : (s₁ s₂ : List ℕ) (whole : ℕ) → whole ≤ length x → length x ≡ len → Spanned (change_of s at from x) s s₁ at whole
      → Spanned (change_of s₁ (at + whole) (from + whole) (take (length x - whole) (drop whole x))) s₁ s₂ (at + whole) (length (take (length x - whole) (drop whole x)))
      → Spanned (change_of s at from x) s s₂ at (length x)
  change_rest s₁ s₂ whole h all u v =
      span_rest x whole h (change_of s at from x) _ s s₁ s₂ at u v (λ t l.
      change_on s₁ whole u t _ (omega arith) ∙ ap (λ (z : ℕ). get_or s (at + (whole + t)) 0 ⊕ (get_or s (from + (whole + t)) 0 ⊕ z)) (rest_at x whole h t))

module _ (sh : Shape) (s s' x : List ℕ) (len at : ℕ) (all : len ≡ sh.w) where
  pub carried_changed : (d c p from : ℕ) → 0 < sh.m → at ≡ place sh 0 p 0 → from ≡ place sh d c 0
      → Spanned (change_of s at from x) s s' at len → Carried sh s d c p x s'
  carried_changed d c p from hm e f u =
      let v : Spanned (change_of s (place sh 0 p 0) (place sh d c 0) x) s s' (place sh 0 p 0) sh.w = rw (e, f, all) at u in
      record {
        long = v.long;
        parity = λ t ht. symbol_new sh _ s s' 0 p hm v t ht
            ∙ sym (ap₂ (λ (a b : ℕ). a ⊕ (b ⊕ get_or x t 0)) (byte_add sh s 0 p t) (byte_add sh s d c t));
        rest = λ e j t he hj ht ne. symbol_rest sh _ s s' 0 p hm v e j t he ht ne;
      }
