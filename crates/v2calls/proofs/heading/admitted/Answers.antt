-- `admitted`: only a rebuild, a fill or a choose has a count of losses.
use native.Mathlib.Omega.{arith}
use borrow.Author.Tests.{leb-true, le-leb}
use Rattle.xor.proofs.TellsLaws.{tells_true}
use Rattle.v2calls.specs.declared.call.Call.TheVariants.{Rebuild, Fill, Choose}
use Rattle.v2calls.specs.Calls.{call_number}
use Rattle.v2calls.proofs.CallLaws.{number_not, with_losses}
use Rattle.v2calls.proofs.heading.admitted.Goals as goal

pub returns-in-Rebuild : goal.returns-in-Rebuild
returns-in-Rebuild c =
    let (low, high) = with_losses _ c.in-Rebuild.is in
    record {
      yes = λ t. record { losses = λ p q. leb-true _ _ t; first_fits = omega arith; second_fits = omega arith };
      no = λ a. le-leb _ _ (a.losses low high);
    }

pub returns-in_default : goal.returns-in_default
unfolding call_number
returns-in_default c =
    let d = c.in_default in
    let six = number_not _ Rebuild d.not-Rebuild in
    let seven = number_not _ Fill d.not-Fill in
    let eight = number_not _ Choose d.not-Choose in
    tells_true (record { losses = λ p q. absurd (omega arith); first_fits = omega arith; second_fits = omega arith })
