-- Reading: what is sure and what is possible.
use Rattle.std.specs.Prelude.{◌≡◌, ℕ, ◌<◌, Ok, Err}
use Rattle.rulings.specs.Points.{Points, union}
use Rattle.rulings.specs.Rulings.{has}
use Rattle.rulings.specs.declared.ruling.Ruling.{Ruling}
use Rattle.semantics.specs.Meaning.{Meaning}
use Rattle.semantics.specs.Chapters.{Fit, chapter}
use Rattle.semantics.specs.WellFounded.{LeastPair, WellFounded, PartRead}
use Rattle.books.specs.Promise.{Outcome}
use Rattle.chapters.specs.declared.reading.Reading.{Reading}
use Rattle.chapters.specs.Fitting.{UpwardDenied}

-- Reading into two places that the caller lends: denied exactly if the chapters do not fit, both places as found;
-- else they hold the well-founded model of the book read whole, which was read chapter by chapter.
abbrev pub ReadInto : Meaning → (ℕ → ℕ) → Outcome → Ruling → Ruling → Ruling → Ruling → Type 0
ReadInto m ch (Err f) s p s' p' =
    UpwardDenied m ch f × (s' ≡ s) × (p' ≡ p)
ReadInto m ch (Ok _) s p s' p' =
    Fit m ch × WellFounded m (has s') (has p') × ((k : ℕ) → k < 16 → PartRead m ch (has s') (has p') k)

-- chapter k adds its pair to the reading of the lower chapters; no public contract cites this
abbrev pub AddsChapter : Meaning → (ℕ → ℕ) → ℕ → Reading → Reading → Type 0
AddsChapter m ch k below after =
    (S : Points) × (P : Points)
    × LeastPair (chapter m ch k (has below.sure) (has below.possible)) (chapter m ch k (has below.possible) (has below.sure)) S P
    × (has after.sure ≡ union (has below.sure) S)
    × (has after.possible ≡ union (has below.possible) P)
