-- For `own`: from the sources of a lost symbol to the symbol stored.
use mathlib.Core.Path.{◌≡◌, sym, ap, ◌∙◌}
use mathlib.Core.Logic.{⊎_elim, inl, inr}
use mathlib.Core.Bool.{cond}
use mathlib.Core.List.{List}
use Prim.Native.Nat.{ℕ, ◌+◌, ◌-◌, ◌<◌}
use native.Mathlib.Omega.{arith}
use lib.Dec.{ltb}
use lib.ListN.{get_or}
use Rattle.xor.specs.Xor.{◌⊕◌}
use Rattle.xor.specs.Spanned.{Spanned}
use Rattle.xor.proofs.Span.{span_same}
use Rattle.shape.specs.declared.Shape.{Shape}
use Rattle.shape.specs.Place.{byte}
use Rattle.summing.specs.declared.Sum.{Sum}
use Rattle.summing.specs.Sums.{summed, Clear, Summed, Apart}
use Rattle.sourcing.specs.Sources.{besides, Sourced}

module _ (sh : Shape) (p side d h b : ℕ) (list : List ℕ) (x : Sum) (c : Sourced sh p side d side h b list x) where
  pub own_clear : (at : ℕ) → (h < sh.m → Apart at b sh.w) → Clear x at sh.w
  own_clear at f i q =
      let (l, e) = c.asks.0 i q in
      ⊎_elim (λ z. inl (omega arith)) (⊎_elim (λ z. inr (inl (omega arith))) (λ z. inr (inr (z ∙ sym e)))) (f l)

  pub own_stored : (s out out' : List ℕ) (at : ℕ) → Summed s list x at 0 sh.w out out'
      → Spanned (λ t. besides sh.m sh.n (byte sh s t) p side d side h ⊕ cond (ltb h sh.m) (get_or out (b + t) 0) 0) out out' at sh.w
  own_stored s out out' at u =
      let e : sh.w - 0 ≡ sh.w = omega arith in
      let u₁ : Spanned (λ t. summed s out list x (0 + t)) out out' (at + 0) sh.w = rw e at u in
      span_same (λ t. besides sh.m sh.n (byte sh s t) p side d side h ⊕ cond (ltb h sh.m) (get_or out (b + t) 0) 0) u₁ (omega arith)
      (λ t l. ap (summed s out list x) (omega arith) ∙ c.sum s out t l)
