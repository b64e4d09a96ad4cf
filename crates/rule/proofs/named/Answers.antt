use mathlib.Core.Path.{◌≡◌, refl}
use Prim.Native.Nat.{ℕ, zero, suc, ◌≤◌}
use native.Mathlib.Omega.{arith}
use Rattle.rule.specs.declared.Losses.TheVariants.{Two}
use Rattle.rule.specs.Losses.{named}
use Rattle.rule.proofs.named.Goals as goal

-- `named`.
both : (count a b : ℕ) → 2 ≤ count → Two a b ≡ named count a b
unfolding named
both zero a b h = absurd (omega arith)
both (suc zero) a b h = absurd (omega arith)
both (suc (suc more)) a b h = refl

pub returns-then-count-eq0 : goal.returns-then-count-eq0
unfolding named
returns-then-count-eq0 c = let e : c.args.count ≡ 0 = omega arith in rw e refl

pub returns-then-count-eq1 : goal.returns-then-count-eq1
unfolding named
returns-then-count-eq1 c = let e : c.args.count ≡ 1 = omega arith in rw e refl

pub returns : goal.returns
returns c = let a = c.args in both a.count a.a a.b (omega arith)
