-- Laws of Tells: how a yes and a no are given, and what a no says.
use mathlib.Core.Path.{◌≡◌, refl}
use mathlib.Core.Bool.{Bool, true, false}
use Prim.Native.Nat.{ℕ}
use native.Mathlib.Omega.{arith}
use Rattle.xor.specs.Tells.{Tells}

pub tells_true : {P : Type 0} → P → Tells P true
tells_true h = record { yes = λ e. h; no = λ x. refl }

pub tells_false : {P : Type 0} → ¬ P → Tells P false
tells_false h = record { yes = λ e. absurd (let z : ◌≡◌ {A = ℕ} 0 1 = cc in omega arith); no = λ x. absurd (h x) }

pub told_no : {P : Type 0} {r : Bool} → Tells P r → r ≡ false → ¬ P
told_no {P} {r} h e p = let y : r ≡ true = h.no p in let z : ◌≡◌ {A = ℕ} 0 1 = cc in absurd (omega arith)
