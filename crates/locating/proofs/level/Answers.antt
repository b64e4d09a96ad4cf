-- `level`: what the two chains differ by, XORed, is zero just where they differ alike.
use mathlib.Core.Path.{refl, sym, ap₂, ◌∙◌}
use Rattle.xor.specs.Xor.{◌⊕◌}
use Rattle.xor.specs.Tells.{Tells}
use Rattle.xor.proofs.XorLaws.{⊕_eq, ⊕_same}
use Rattle.xor.proofs.TellsLaws.{told_no}
use Rattle.locating.proofs.LocatingLaws.{Pieces, compares_yes, compares_no}
use Rattle.locating.proofs.level.Given.{Over}
use Rattle.locating.proofs.level.Goals as goal
use Rattle.locating.proofs.level.Goals.{After-none}

-- what `none` tells of the two chains
told : (g : Over) (c : After-none g) → Tells (Pieces c.args.wk.shape c.args.s.now c.args.wk.p c.args.other.p c.args.from g.row.LEN) c.none.result
told g c =
    let one = c.difference-acc.ensures in
    let two = rw c.requires.one_shape at c.difference-second.ensures in record {
      yes = λ e t l. ⊕_eq _ _ (sym (c.join.ensures.at t l ∙ ap₂ ◌⊕◌ (one.at t l) (two.at t l)) ∙ c.none.ensures.yes e t l);
      no = λ all. c.none.ensures.no (λ t l. c.join.ensures.at t l ∙ ap₂ ◌⊕◌ (one.at t l) (two.at t l) ∙ ⊕_same _ _ (all t l));
    }

pub returns-then-not-none : goal.returns-then-not-none
returns-then-not-none g c =
    let a = c.args in
    (refl, compares_no a.wk.shape a.s.now a.wk.p a.other.p a.from g.row.LEN (told_no (told g (goal.at.returns-then-not-none g c).After-none) c.if-not-none.true))

pub returns-else-not-none : goal.returns-else-not-none
returns-else-not-none g c =
    let a = c.args in
    (refl, compares_yes a.wk.shape a.s.now a.wk.p a.other.p a.from g.row.LEN ((told g (goal.at.returns-else-not-none g c).After-none).yes c.if-not-none.false))
