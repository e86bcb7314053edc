-- The row order is a strict total order.
use Rattle.rulings.proofs.RowOrder.{row_order}
use Rattle.rulings.proofs.ruling.laws.row_order_is_total.Goals as goal

pub returns : goal.returns
returns c = row_order
