-- The points below this one are in by what the test answered of them, and no other is.
use Rattle.std.proofs.Common.{◌≡◌, ℕ, false, ◌<◌, ◌≤◌}
use Rattle.rulings.specs.Rulings.{has}
use Rattle.chapters.proofs.picking.points_where.Given as goal

abbrev pub invariant-loop-point : goal.invariant-loop-point
invariant-loop-point g l = record {
  tested : (a : ℕ) → a < l.point → goal.F-post g l.test a (has l.ruling a);
  outside : (a : ℕ) → l.point ≤ a → has l.ruling a ≡ false;
}
