-- Both loops keep the upward readings of the pairs gone through.
use Rattle.marker.specs.State.{book_of, placing}
use Rattle.marker.proofs.Gathering.{Gathering}
use Rattle.marker.proofs.marker.Marker.gather.Given as goal

abbrev pub invariant-loop-reader : goal.invariant-loop-reader
invariant-loop-reader g l = Gathering (g.B.Book.meaning (book_of l.self)) (placing l.self) l.reader 0 l.fn.rows l.rows l.count

abbrev pub invariant-loop-read : goal.invariant-loop-read
invariant-loop-read g l = Gathering (g.B.Book.meaning (book_of l.self)) (placing l.self) l.reader l.read l.fn.rows l.rows l.count
