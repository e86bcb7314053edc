use Rattle.rulings.specs.Rulings.{has}
use Rattle.semantics.proofs.SplitReading.{well_founded_splits}
use Rattle.chapters.specs.Table.{chapter_of}
use Rattle.marker.proofs.marker.Marker.read.Goals as goal

pub returns : goal.returns
returns g c =
    let s = c.args.self.now in
    let fit = c.in_ok-refuse_upward_readings.ensures.ok in
    (fit, (well_founded_splits (g.B.Book.meaning s.book) (chapter_of s.chapters) (g.met.B.Book.lawful s.book) fit s.sixteen (has c.read_upward-reading.result.sure) (has c.read_upward-reading.result.possible)).1 c.read_upward-reading.ensures, c.read_upward-reading.ensures)
