-- `stock`: over 9 the one refusal, below it the entry of the table, which is the list of the specs word for word.
use Rattle.stock.specs.Stock.{stock}
use Rattle.stock.proofs.StockLaws.{stock_looked}
use Rattle.stock.proofs.stock_shapes.stock.Goals as goal

pub returns : goal.returns
unfolding stock
returns c = rw (c.ok_or.ensures.value, c.copied.ensures) (stock_looked _ _ c.get.ensures.lookup)
