use Rattle.rulings.specs.Rulings.{has}
use Rattle.chapters.specs.Table.{chapter_of}
use Rattle.marker.proofs.Upreading.{ReadBelow}
use Rattle.marker.proofs.marker.Marker.read_upward.Given as goal

abbrev pub invariant-loop-number : goal.invariant-loop-number
invariant-loop-number g l =
    ReadBelow (g.B.Book.meaning l.self.book) (chapter_of l.self.chapters) l.number (has l.reading.sure) (has l.reading.possible)
