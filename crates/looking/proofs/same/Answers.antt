use mathlib.Core.Path.{ap}
use Prim.Native.Nat.{ℕ}
use native.Mathlib.Omega.{arith}
use borrow.Author.Tests.{eqb-true}
use lib.Dec.{eqb}
use Rattle.xor.specs.Xor.{◌⊕◌}
use Rattle.xor.proofs.XorLaws.{⊕_eq, ⊕_same}
use Rattle.looking.proofs.Seen.{seen_more}
use Rattle.looking.proofs.same.Goals as goal

pub loop-k-preserved : goal.loop-k-preserved
unfolding ◌⊕◌
loop-k-preserved g c = seen_more c.loop-k.invariant

pub returns : goal.returns
returns g c =
    let s = c.loop-k.invariant in
    record {
      yes = λ e t l. ⊕_eq _ _ (s.clear (eqb-true _ _ e) t (omega arith));
      no = λ h. ap (λ (x : ℕ). eqb x 0) (s.zero (λ t l. ⊕_same _ _ (h t (omega arith))));
    }
