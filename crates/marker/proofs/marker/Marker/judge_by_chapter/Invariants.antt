use Rattle.std.proofs.Common.{ℕ, ◌<◌}
use Rattle.rulings.specs.Rulings.{has}
use Rattle.semantics.specs.Chapters.{PartStable}
use Rattle.chapters.specs.Table.{chapter_of}
use Rattle.marker.proofs.marker.Marker.judge_by_chapter.Given as goal

abbrev pub invariant-loop-chapter : goal.invariant-loop-chapter
invariant-loop-chapter g l =
    (k : ℕ) → k < l.chapter → PartStable (g.B.Book.meaning l.self.book) (chapter_of l.self.chapters) (has l.ruling) k
