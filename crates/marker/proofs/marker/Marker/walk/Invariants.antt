-- Between two levels the walk is paused. The loop over candidates stays at its level, with the steps set aside as they are.
use Rattle.std.proofs.Common.{◌≡◌, ◌+◌, ◌-◌, ◌*◌, ◌≤◌, length}
use Rattle.marker.specs.State.{book_of, placing}
use Rattle.marker.proofs.Walking.{Walking, Paused, Level}
use Rattle.marker.proofs.marker.Marker.walk.Given as goal

abbrev pub invariant-walk : goal.invariant-walk
invariant-walk g l = Paused (g.B.Book.meaning (book_of l.self)) (placing l.self) l.fn.rows l.steps.items l.count l.effort l.rows

abbrev pub decreases-walk : goal.decreases-walk
decreases-walk g l = 2 * (65537 - l.effort) + length l.steps.items

abbrev pub invariant-loop-candidate : goal.invariant-loop-candidate
invariant-loop-candidate g l =
    record {
      at : Walking (g.B.Book.meaning (book_of l.self)) (placing l.self) l.fn.rows l.steps.items l.candidate l.lower l.count l.effort l.rows;
      level : Level (g.B.Book.meaning (book_of l.self)) (placing l.self) (length l.steps.items) l.points l.candidate-end;
      same : l.steps ≡ l.initial.steps;
      spent : l.initial.effort ≤ l.effort;
    }
