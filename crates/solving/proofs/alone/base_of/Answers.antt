use mathlib.Core.Path.{◌≡◌, refl}
use Prim.Native.Nat.{ℕ}
use native.Mathlib.Omega.{arith}
use Rattle.solving.specs.Outer.{base_of}
use Rattle.solving.proofs.SideLaws.{of_first, of_second}
use Rattle.solving.proofs.alone.base_of.Goals as goal

-- `base_of`.
pub returns-then-side-eq0 : goal.returns-then-side-eq0
unfolding base_of
returns-then-side-eq0 c = let a = c.args in of_first (λ (i : ℕ). a.x.one ≡ base_of a.x i) a.side (omega arith) refl

pub returns : goal.returns
unfolding base_of
returns c = let a = c.args in of_second (λ (i : ℕ). a.x.two ≡ base_of a.x i) a.side (λ e. omega arith) (λ i. refl)
