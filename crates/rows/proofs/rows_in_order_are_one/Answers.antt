-- By the laws of the row's order.
use Rattle.rows.proofs.Same.{same_rows}
use Rattle.rows.proofs.rows_in_order_are_one.Goals as goal

pub returns : goal.returns
returns g c = same_rows g.R.Row.before g.met.R.Row.strict
