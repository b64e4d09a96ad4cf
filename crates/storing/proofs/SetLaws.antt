-- Laws of a symbol stored: what its bytes leave, stored in two parts or at once, and what raw store has done with it.
use mathlib.Core.Path.{◌≡◌, refl, ap, ◌∙◌}
use mathlib.Core.List.{List}
use Prim.Native.Nat.{ℕ, ◌+◌, ◌-◌, ◌≤◌, ◌<◌}
use native.Mathlib.Omega.{arith}
use borrow.Author.Rules.{part_to_end}
use lib.ListN.{length, get_or, take, drop, length-drop}
use lib.Seq.{get_or-drop}
use Rattle.xor.specs.Spanned.{Spanned}
use Rattle.xor.proofs.Span.{span_same, span_then}
use Rattle.shape.specs.declared.Shape.{Shape}
use Rattle.shape.specs.Place.{height, place}
use Rattle.storing.specs.Set.{Set}
use Rattle.storing.specs.Store.{Stored}
use Rattle.storing.proofs.Symbols.{symbol_new, symbol_rest}

module _ (x : List ℕ) (whole : ℕ) (h : whole ≤ length x) where
  -- what is left of x after `whole` bytes: its length and its bytes
  pub rest_long : length (take (length x - whole) (drop whole x)) ≡ length x - whole
  rest_long = ap length (part_to_end x whole) ∙ length-drop whole x

  pub rest_at : (t : ℕ) → get_or (take (length x - whole) (drop whole x)) t 0 ≡ get_or x (whole + t) 0
  rest_at t = ap (λ (l : List ℕ). get_or l t 0) (part_to_end x whole) ∙ get_or-drop whole x t 0

  -- as many bytes as x has, stored in two parts: those below `whole`, and right after them as many as are left of x
  pub span_rest : (f g : ℕ → ℕ) (s s₁ s₂ : List ℕ) (at : ℕ) → Spanned f s s₁ at whole
      → Spanned g s₁ s₂ (at + whole) (length (take (length x - whole) (drop whole x))) → ((t : ℕ) → t < length x - whole → g t ≡ f (whole + t)) → Spanned f s s₂ at (length x)
  span_rest f g s s₁ s₂ at u v same =
      let e : length x ≡ whole + (length x - whole) = omega arith in
      rw e (span_then f u (span_same (λ t. f (whole + t)) (rw rest_long at v) refl same))

module _ (sh : Shape) (s s' x : List ℕ) (len at : ℕ) (all : len ≡ sh.w) where
  -- at the symbol's place
  pub set_copied : (d c : ℕ) → d < sh.m → at ≡ place sh d c 0 → Spanned (λ t. get_or x t 0) s s' at len → Set sh s d c x s'
  set_copied d c hd e u =
      let v : Spanned (λ t. get_or x t 0) s s' (place sh d c 0) sh.w = rw (e, all) at u in record {
        long = v.long;
        new = symbol_new sh _ s s' d c hd v;
        rest = λ e j t he hj ht ne. symbol_rest sh _ s s' d c hd v e j t he ht ne;
      }

-- a symbol stored at the height of a row is what raw store does
pub set_stored : (sh : Shape) (s x s' : List ℕ) (c r h : ℕ) → h ≡ height sh r → Set sh s h c x s' → Stored sh s c r x s'
set_stored sh s x s' c r h e u = let v : Set sh s (height sh r) c x s' = rw e at u in record { long = v.long; new = v.new; rest = v.rest }
