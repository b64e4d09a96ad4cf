-- `rebuilt`: the columns lost are told where the answer is 0.
use mathlib.Core.Path.{◌≡◌, refl, sym, ◌∙◌}
use mathlib.Core.Logic.{◌≢◌}
use Prim.Native.Nat.{ℕ, zero, suc}
use native.Mathlib.Omega.{arith}
use Rattle.answer.specs.Answers.{number}
use Rattle.answer.proofs.AnswersLaws.{refused, given}
use Rattle.v2calls.specs.Told.{if_done}
use Rattle.v2calls.proofs.making.rebuilt.Goals as goal
use Rattle.v2calls.proofs.making.rebuilt.Goals.{in-Ok, in-Err}

-- any answer but 0 gives 0
none : (answer count : ℕ) → answer ≢ 0 → 0 ≡ if_done answer count
unfolding if_done
none zero count h = absurd (h refl)
none (suc k) count h = refl

done : (answer count : ℕ) → answer ≡ 0 → count ≡ if_done answer count
unfolding if_done
done zero count h = refl
done (suc k) count h = absurd (omega arith)

pub returns : goal.returns
returns c =
    let told : c.match-answer.x1 ≡ if_done (number c.rebuild-answer.result) c.args.head.a = elim c.match-answer.branch [
      | in-Ok w ↦ w.x1-is ∙ done _ _ (given w.in-Ok.is)
      | in-Err w ↦ w.x1-is ∙ none _ _ (refused w.in-Err.is)
    ] in record {
      answer = c.rebuild-answer.result;
      is = rw (sym c.named.ensures) c.rebuild-answer.ensures;
      tells = rw (c.number.ensures, told) refl;
    }
