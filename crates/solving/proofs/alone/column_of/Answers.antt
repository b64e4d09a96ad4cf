use mathlib.Core.Path.{◌≡◌, refl}
use Prim.Native.Nat.{ℕ}
use native.Mathlib.Omega.{arith}
use Rattle.solving.specs.Outer.{column_of}
use Rattle.solving.proofs.SideLaws.{of_first, of_second}
use Rattle.solving.proofs.alone.column_of.Goals as goal

-- `column_of`.
pub returns-then-side-eq0 : goal.returns-then-side-eq0
unfolding column_of
returns-then-side-eq0 c = let a = c.args in of_first (λ (i : ℕ). a.x.first ≡ column_of a.x i) a.side (omega arith) refl

pub returns : goal.returns
unfolding column_of
returns c = let a = c.args in of_second (λ (i : ℕ). a.x.second ≡ column_of a.x i) a.side (λ e. omega arith) (λ i. refl)
