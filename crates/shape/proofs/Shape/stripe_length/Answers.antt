use mathlib.Core.Path.{refl}
use Rattle.shape.specs.Good.{size}
use Rattle.shape.proofs.Shape.stripe_length.Goals as goal

-- `Shape::stripe_length` is m·n·w, which a good shape keeps at most 65,536.
pub returns : goal.returns
unfolding size
returns c = record { is = refl; small = c.requires.all_fits }
