-- Laws of the buffer whose first bytes are the stripe: it is known by its stripe and the rest, and any stripe as long can stand there.
use mathlib.Core.Path.{◌≡◌, sym, ap, ap₂, ◌∙◌}
use mathlib.Core.List.{List, ◌++◌}
use Prim.Native.Nat.{ℕ, ◌≤◌, ◌<◌}
use native.Mathlib.Omega.{arith}
use native.Mathlib.Decide.{dec_le, dec_lt}
use lib.ListN.{length, get_or, take, drop, replicate, take-append-drop, drop_of_length-le, length-replicate, get_or-replicate, get_or-eq_default, length-take}
use lib.Seq.{length-take-le, length_front, take_all, take_at, drop_at, get_or-take, ext_get_or}
use Rattle.shape.specs.declared.Shape.{Shape}
use Rattle.shape.specs.Good.{size}
use Rattle.rebuild.specs.Rebuild.{Cleared}
use Rattle.kinds.specs.Kinds.{stripe, Inside}

-- ---- the stripe and the rest

parts_one : (n : ℕ) (x y : List ℕ) → take n x ≡ take n y → drop n x ≡ drop n y → x ≡ y
parts_one n x y p q = sym (take-append-drop n x) ∙ ap₂ ◌++◌ p q ∙ take-append-drop n y

module _ (sh : Shape) (s : List ℕ) where
  pub inside_one : (x y : List ℕ) → Inside sh s x → Inside sh s y → stripe sh x ≡ stripe sh y → x ≡ y
  inside_one x y p q e = parts_one (size sh) x y e (p.rest ∙ sym q.rest)

  pub inside_kept : (x : List ℕ) → Inside sh s x → stripe sh x ≡ stripe sh s → x ≡ s
  inside_kept x p e = parts_one (size sh) x s e p.rest

  -- another stripe in its place
  pub inside_some : (x : List ℕ) → length x ≡ length (stripe sh s) → (s' : List ℕ) × (stripe sh s' ≡ x) × Inside sh s s'
  inside_some x e = at (dec_le (size sh) (length s))
    where
      at : Dec (size sh ≤ length s) → (s' : List ℕ) × (stripe sh s' ≡ x) × Inside sh s s'
      at (yes h) =
          let l = e ∙ length-take-le (size sh) s h in (
            x ++ drop (size sh) s,
            take_at x _ (size sh) l,
            record { long = length_front s x (size sh) e; rest = drop_at x _ (size sh) l },
          )
      at (no h) =
          let all = take_all (size sh) s (omega arith) in let l = e ∙ ap length all in (
            x,
            take_all (size sh) x (omega arith),
            record { long = l; rest = drop_of_length-le x {i = size sh} (omega arith) ∙ sym (drop_of_length-le s {i = size sh} (omega arith)) },
          )

  -- ---- the stripe zeros

  module _ (x : List ℕ) (p : Inside sh s x) (zero : (i : ℕ) → i < size sh → get_or x i 0 ≡ 0) where
    pub zeros_are : stripe sh x ≡ replicate (length (stripe sh s)) 0
    zeros_are = ext_get_or 0 (stripe sh x) (replicate (length (stripe sh s)) 0) long (λ i h.
        let lt : i < size sh = omega (arith, length-take (size sh) x) in
        get_or-take (size sh) x i 0 lt ∙ zero i lt ∙ sym (get_or-replicate {A = ℕ} (length (stripe sh s)) i 0 0 (omega (arith, long, length-replicate {A = ℕ} (length (stripe sh s)) 0))))
      where
        long : length (stripe sh x) ≡ length {A = ℕ} (replicate (length (stripe sh s)) 0)
        long = omega (arith, length-take (size sh) x, length-take (size sh) s, p.long, length-replicate {A = ℕ} (length (stripe sh s)) 0)

  pub zeros_some : (s' : List ℕ) × ((i : ℕ) → i < size sh → get_or s' i 0 ≡ 0) × Inside sh s s'
  zeros_some =
      let (s', e, i) = inside_some (replicate (length (stripe sh s)) 0) (length-replicate _ 0) in
      (s', (λ i h. sym (get_or-take (size sh) s' i 0 h) ∙ ap (λ (l : List ℕ). get_or l i 0) e ∙ zero (length (stripe sh s)) i), i)
    where
      zero : (n i : ℕ) → get_or {A = ℕ} (replicate n 0) i 0 ≡ 0
      zero n i = at (dec_lt i n)
        where
          at : Dec (i < n) → get_or {A = ℕ} (replicate n 0) i 0 ≡ 0
          at (yes h) = get_or-replicate n i 0 0 h
          at (no h) = let l : length {A = ℕ} (replicate n 0) ≡ n = length-replicate n 0 in get_or-eq_default (replicate n 0) 0 {n = i} (omega arith)

-- ---- the workspace

pub cleared_one : (room : ℕ) (u v : List ℕ) → Cleared room u → Cleared room v → u ≡ v
cleared_one room u v c d = ext_get_or 0 u v (c.long ∙ sym d.long) (λ i h. c.zero i (omega (arith, c.long)) ∙ sym (d.zero i (omega (arith, c.long))))

pub cleared_some : (room : ℕ) → (u : List ℕ) × Cleared room u
cleared_some room = (replicate room 0, record { long = length-replicate room 0; zero = λ i h. get_or-replicate room i 0 0 h })
