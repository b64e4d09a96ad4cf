-- `as_alone`: rebuild has one outcome.
use mathlib.Core.Path.{refl, ◌∙◌}
use Rattle.std.proofs.Common.{rules}
use Rattle.std.proofs.lemmas.Slice.Eq.{bytes_eq-Decides}
use Rattle.spring.proofs.Told.{same_outcome, same_answer}
use Rattle.spring.proofs.as_alone.Goals as goal

pub expect-requires : goal.expect-requires
expect-requires g c = c.eq.ensures ∙ same_answer _ _ _ _ refl (λ r. search rules) (same_outcome c.requires.2 c.rebuilt-answer.ensures c.rebuilt-alone.ensures).0

pub expect-requires-2 : goal.expect-requires-2
expect-requires-2 g c =
    c.eq-2.ensures ∙ (bytes_eq-Decides _ _).1 (same_outcome c.requires.2 c.rebuilt-answer.ensures c.rebuilt-alone.ensures).1
