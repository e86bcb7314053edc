-- What the entries still to come do from here, all entries do from the start.
use Rattle.std.proofs.Common.{◌≡◌, drop}
use Rattle.books.specs.Promise.{Outcome}
use Rattle.marker.specs.State.{book_of, chapters_of}
use Rattle.telling.specs.Example.{EntersEach}
use Rattle.telling.proofs.example_book.enter_each.Given as goal

abbrev pub invariant-loop-entry : goal.invariant-loop-entry
invariant-loop-entry g l = record {
  rest : (r : Outcome) (b : _) → EntersEach g.B.Book.entered (drop l.entry-index l.fn.entries) (book_of l.marker) r b
      → EntersEach g.B.Book.entered l.fn.entries (book_of l.fn.marker) r b;
  chapters : chapters_of l.marker ≡ chapters_of l.fn.marker;
}
