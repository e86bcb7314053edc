-- The loop keeps the levels among the chapters gone through.
use Rattle.std.proofs.Common.{◌≡◌}
use Rattle.semantics.proofs.Levels.{levels_below}
use Rattle.marker.specs.State.{book_of, placing}
use Rattle.marker.proofs.marker.Marker.levels.Given as goal

abbrev pub invariant-loop-number : goal.invariant-loop-number
invariant-loop-number g l = l.levels.items ≡ levels_below (g.B.Book.meaning (book_of l.self)) (placing l.self) l.number
