-- `match_part`: the sum's block is beside the bytes of u.
use mathlib.Core.Path.{refl}
use Rattle.summing.specs.Sums.{summed}
use Rattle.matching.specs.Matching.{bytes_at}
use Rattle.matching.proofs.MatchingLaws.{same_level, level_same}
use Rattle.matching.proofs.match_part.Goals as goal

pub returns : goal.returns
returns g c =
    let a = c.args in
    let F = summed a.s.now a.out.now a.list.now a.x in
    let G = bytes_at a.u.now a.at in
    record {
      yes = λ e. same_level F G a.u.now a.at (λ t. refl) a.from g.row.LEN _ c.sum_at-acc.ensures (c.same.ensures.yes e);
      no = λ h. c.same.ensures.no (level_same F G a.u.now a.at (λ t. refl) a.from g.row.LEN _ c.sum_at-acc.ensures h);
    }
