-- The list goes on from the lowest point that is left.
use Rattle.std.proofs.Common.{rules, arith, length, ap, Some}
use Rattle.std.proofs.lemmas.Bool.{and_parts}
use Rattle.rulings.proofs.Bytes.{has_below}
use Rattle.rulings.proofs.Ascending.{lowest_first}
use Rattle.rulings.proofs.ruling.points.PointsIterator.next.Goals as goal

pub returns-in_err-point-clause-steps : goal.returns-in_err-point-clause-steps
returns-in_err-point-clause-steps c = let first = lowest_first _ _ _ c.first_from.ensures in search rules

pub overflow_add-self : goal.overflow_add-self
overflow_add-self c = omega (arith, has_below c.args.self.now.ruling c.in_ok-point.point (and_parts _ _ c.in_ok-point.ensures.0).1)

pub returns-clause-steps : goal.returns-clause-steps
returns-clause-steps c = lowest_first c.args.self.now.ruling c.args.self.now.next (Some c.in_ok-point.point) c.in_ok-point.ensures

pub returns-clause-goes : goal.returns-clause-goes
returns-clause-goes c =
    let shorter = ap length (lowest_first c.args.self.now.ruling c.args.self.now.next (Some c.in_ok-point.point) c.in_ok-point.ensures) in search (rules, arith)
