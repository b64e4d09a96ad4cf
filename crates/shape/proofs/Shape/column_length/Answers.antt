use mathlib.Core.Path.{refl}
use Rattle.shape.proofs.Fits.{column_inside}
use Rattle.shape.proofs.Shape.column_length.Goals as goal

-- `Shape::column_length` is m·w, no more than the whole stripe, which fits.
pub returns : goal.returns
returns c =
    record { is = refl; inside = column_inside c.args.self c.requires; small = c.requires.all_fits }
