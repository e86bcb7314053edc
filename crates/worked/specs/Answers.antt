-- What is said of a worked book: its listing, its reading, its verdicts, its audit.
-- Each says, by the relation that the contract of the marker's call promises, which answers are right: this one and no other.
use Rattle.std.specs.Prelude.{◌≡◌, ℕ, ◌≤◌, ◌↔◌, List, map, length, take, drop, Some, Ok, Err, Result}
use Rattle.rulings.specs.Points.{listed}
use Rattle.rulings.specs.Rulings.{has}
use Rattle.rulings.specs.declared.ruling.Ruling.{Ruling}
use Rattle.semantics.specs.Meaning.{Meaning}
use Rattle.answers.specs.declared.fault.Fault.{Fault}
use Rattle.answers.specs.declared.verdict.Verdict.{Verdict}
use Rattle.answers.specs.declared.verdict.ChapterVerdict.{ChapterVerdict}
use Rattle.answers.specs.declared.listing.Listing.{Listing}
use Rattle.answers.specs.declared.audit.UpwardReading.{UpwardReading}
use Rattle.books.specs.Promise.{Outcome}
use Rattle.marker.specs.Judging.{Judged, JudgedByChapter}
use Rattle.marker.specs.Reading.{ReadInto}
use Rattle.marker.specs.Listing.{Listed}
use Rattle.marker.specs.Audit.{Audited}

-- a listing into rows enough, whatever they held, answers these sets of points, in this order, and this effort,
-- and leaves the later rows as found
unfoldable pub GivesListing : Meaning → (ℕ → ℕ) → List (List ℕ) → ℕ → Type 0
GivesListing m ch sets effort =
    (found left : List Ruling) → length sets ≤ length found → length left ≡ length found →
    (r : Result Listing Fault) → Listed m ch found r left
    ↔ ((r ≡ Ok (record { rows = length sets; effort = effort }))
    × (map has (take (length sets) left) ≡ map listed sets)
    × (drop (length sets) left ≡ drop (length sets) found))

-- a listing is refused with this fault, and leaves the rows as found
unfoldable pub RefusesListing : Meaning → (ℕ → ℕ) → Fault → Type 0
RefusesListing m ch f =
    (found left : List Ruling) (r : Result Listing Fault) → Listed m ch found r left ↔ ((r ≡ Err f) × (left ≡ found))

-- a reading answers these points as sure and these as possible, whatever the two places held
unfoldable pub GivesReading : Meaning → (ℕ → ℕ) → List ℕ → List ℕ → Type 0
GivesReading m ch sure possible =
    (s p s' p' : Ruling) (r : Outcome) → ReadInto m ch r s p s' p'
    ↔ ((r ≡ Ok tt) × (has s' ≡ listed sure) × (has p' ≡ listed possible))

-- the ruling of these points is given this verdict
unfoldable pub GivesVerdict : Meaning → List ℕ → Verdict → Type 0
GivesVerdict m points v = (y : Ruling) → has y ≡ listed points → (r : Result Verdict Fault) → Judged m y r ↔ (r ≡ Ok v)

-- by chapters, the ruling of these points is given this verdict, in this chapter
unfoldable pub GivesVerdictByChapter : Meaning → (ℕ → ℕ) → List ℕ → Verdict → ℕ → Type 0
GivesVerdictByChapter m ch points v k =
    (y : Ruling) → has y ≡ listed points →
    (r : Result ChapterVerdict Fault) → JudgedByChapter m ch y r ↔ (r ≡ Ok (record { verdict = v; chapter = Some k }))

-- an audit into rows enough, whatever they held, answers these rows and leaves the later rows as found
unfoldable pub GivesAudit : Meaning → (ℕ → ℕ) → List UpwardReading → Type 0
GivesAudit m ch rows =
    (found left : List UpwardReading) → length rows ≤ length found → length left ≡ length found →
    (r : Result ℕ Fault) → Audited m ch found r left
    ↔ ((r ≡ Ok (length rows)) × (take (length rows) left ≡ rows) × (drop (length rows) left ≡ drop (length rows) found))
