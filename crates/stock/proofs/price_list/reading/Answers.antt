-- `reading` is the figure of the price list; what 1 is taken from is at least 4, and small.
use mathlib.Core.Path.{refl}
use Rattle.stock.specs.Prices.{symbols_read}
use Rattle.stock.proofs.price_list.reading.Goals as goal

pub returns : goal.returns
unfolding symbols_read
returns c = refl
