-- The insertion: the rows that move on are a part of those in use, and what is left.
use Rattle.std.proofs.Common.{arith}
use Rattle.std.proofs.lemmas.List.{length-take-le}
use Rattle.rows.proofs.Moving.{moved_and_put}
use Rattle.rows.proofs.insert_in_order.Goals as goal

pub overflow_sub-place : goal.overflow_sub-place
overflow_sub-place g c =
    omega (arith, c.rows_behind.ensures.few, length-take-le c.args.count c.args.rows.now (omega arith))

pub returns : goal.returns
returns g c =
    rw c.copy_within.ensures.after
    (moved_and_put g.R.Row.before g.met.R.Row.strict c.args.row c.args.rows.now c.args.count c.rows_behind.result (omega arith) c.rows_behind.ensures)
