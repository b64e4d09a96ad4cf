-- `spelled`: each field is read where its part stands.
use mathlib.Core.Path.{refl}
use Rattle.v2calls.specs.Heads.{spelled}
use Rattle.v2calls.proofs.heading.spelled.Goals as goal

pub returns : goal.returns
unfolding spelled
returns c = (
  c.in_ok-call.ensures,
  rw (c.eight.ensures, c.eight-2.ensures, c.eight-3.ensures, c.eight-4.ensures, c.eight-5.ensures, c.eight-6.ensures, c.eight-7.ensures, c.four.ensures.0, c.four-2.ensures.0) refl,
)
