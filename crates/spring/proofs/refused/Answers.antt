-- `refused`: a refused rebuild leaves the stripe as it was.
use mathlib.Core.Path.{◌∙◌}
use Rattle.std.proofs.lemmas.Slice.Eq.{bytes_eq-Decides}
use Rattle.spring.proofs.Told.{failed}
use Rattle.spring.proofs.refused.Goals as goal

pub expect-requires : goal.expect-requires
expect-requires g c =
    c.eq-kept.ensures ∙ (bytes_eq-Decides _ _).1 (c.rebuilt-answer.ensures.outcome.refused (failed _ c.if-is_err.ensures.value))
