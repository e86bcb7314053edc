-- A marker: a book with a chapter for each point; and what the changes do to both.
use Rattle.std.specs.Prelude.{◌≡◌, ℕ, ◌<◌, ◌≤◌, cond, ◌⊎◌, Ok, Err, ◌==◌}
use Rattle.answers.specs.declared.fault.Refusal.TheVariants.{NoSuchChapter}
use Rattle.answers.specs.declared.fault.Layer.TheVariants as layer
use Rattle.answers.specs.Faults.{fault_of}
use Rattle.answers.specs.Checks.{PointDenied}
use Rattle.books.specs.Promise.{Outcome}
use Rattle.marker.specs.declared.marker.Marker.{Marker}
use Rattle.chapters.specs.declared.chapters.Chapters.{Chapters}
use Rattle.chapters.specs.Table.{chapter_of, AllInChapter0}

-- the book that a marker holds
abbrev pub book_of : {B : Type 0} → Marker B → B
book_of m = m.book

-- the chapters that a marker holds
abbrev pub chapters_of : {B : Type 0} → Marker B → Chapters
chapters_of m = m.chapters

-- where the points of a marker are placed: the chapter of each
abbrev pub placing : {B : Type 0} → Marker B → ℕ → ℕ
placing m = chapter_of m.chapters

-- an accepted opening puts every chapter to 0, a refused one leaves the chapters as found
abbrev pub ChaptersOpened : Outcome → Chapters → Chapters → Type 0
ChaptersOpened (Ok _) c c' = AllInChapter0 c'
ChaptersOpened (Err f) c c' = c' ≡ c

-- Placing point a of a book of size n in chapter k: the others keep theirs, the book is as found.
-- Denied for a point that the book does not have, then for a chapter above 15; the fault names the point, and the marker
-- is as found.
abbrev pub Placed : {B : Type 0} → ℕ → Marker B → ℕ → ℕ → Outcome → Marker B → Type 0
Placed n m a k (Ok _) m' =
    (a < n) × (k ≤ 15) × (book_of m' ≡ book_of m)
    × ((c : ℕ) → chapter_of (chapters_of m') c ≡ cond (c == a) k (chapter_of (chapters_of m) c))
Placed n m a k (Err f) m' =
    (PointDenied layer.Marker n a f ⊎ ((f ≡ fault_of layer.Marker (NoSuchChapter a)) × (a < n) × (15 < k)))
    × (m' ≡ m)
