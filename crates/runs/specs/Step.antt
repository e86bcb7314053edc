-- One step of a run: what a call does to a marker, and what it tells.
-- Each sort of call has a relation of its own, which cites the one that the contract of the marker's call gives.
use Rattle.std.specs.Prelude.{◌≡◌, ℕ, List, length, Result}
use Rattle.rulings.specs.declared.ruling.Ruling.{Ruling}
use Rattle.semantics.specs.Meaning.{Meaning}
use Rattle.books.specs.declared.book.Book.{Ghosts as Sort}
use Rattle.answers.specs.declared.fault.Fault.{Fault}
use Rattle.books.specs.Promise.{Outcome}
use Rattle.answers.specs.declared.audit.UpwardReading.{UpwardReading}
use Rattle.answers.specs.declared.listing.Listing.{Listing as Counts}
use Rattle.marker.specs.declared.marker.Marker.{Marker}
use Rattle.answers.specs.declared.verdict.Verdict.{Verdict}
use Rattle.answers.specs.declared.verdict.ChapterVerdict.{ChapterVerdict}
use Rattle.marker.specs.Audit.{Audited}
use Rattle.marker.specs.Judging.{Judged, JudgedByChapter}
use Rattle.marker.specs.Listing.{Listed}
use Rattle.marker.specs.Reading.{ReadInto}
use Rattle.marker.specs.State.{book_of, chapters_of, placing, ChaptersOpened, Placed}
use Rattle.runs.specs.declared.call.Call.{Call}
use Rattle.runs.specs.declared.call.Call.TheVariants as call
use Rattle.runs.specs.Told.{Told, outcome_told, judgement_told, chapter_judgement_told, reading_told, listing_told, audit_told}

-- what the book of a marker means; f gives the meaning of a book
abbrev pub means : {B : Type 0} → (B → Meaning) → Marker B → Meaning
means f s = f (book_of s)

-- Changes of the book, by the relations of its own sort. Entering and withdrawing keep the chapters.
abbrev pub Opens : {B : Type 0} → Sort B → ℕ → Marker B → Told → Marker B → Type 0
Opens S n s t s' =
    (r : Outcome) × (t ≡ outcome_told r)
    × S.opened (book_of s) n r (book_of s') × ChaptersOpened r (chapters_of s) (chapters_of s')

abbrev pub Enters : {B : Type 0} → Sort B → ℕ → Ruling → Ruling → Marker B → Told → Marker B → Type 0
Enters S a p q s t s' =
    (r : Outcome) × (t ≡ outcome_told r)
    × S.entered (book_of s) a p q r (book_of s') × (chapters_of s' ≡ chapters_of s)

abbrev pub Withdraws : {B : Type 0} → Sort B → ℕ → Marker B → Told → Marker B → Type 0
Withdraws S a s t s' =
    (r : Outcome) × (t ≡ outcome_told r)
    × S.withdrawn (book_of s) a r (book_of s') × (chapters_of s' ≡ chapters_of s)

-- placing a point in a chapter
abbrev pub Places : {B : Type 0} → (B → Meaning) → ℕ → ℕ → Marker B → Told → Marker B → Type 0
Places f a k s t s' = (r : Outcome) × (t ≡ outcome_told r) × Placed (means f s).size s a k r s'

-- Questions leave the marker as it is. Rows and places may hold anything when they are handed over.
abbrev pub Judges : {B : Type 0} → (B → Meaning) → Ruling → Marker B → Told → Marker B → Type 0
Judges f y s t s' = (r : Result Verdict Fault) × (t ≡ judgement_told r) × Judged (means f s) y r × (s' ≡ s)

abbrev pub JudgesByChapter : {B : Type 0} → (B → Meaning) → Ruling → Marker B → Told → Marker B → Type 0
JudgesByChapter f y s t s' =
    (r : Result ChapterVerdict Fault) × (t ≡ chapter_judgement_told r) × JudgedByChapter (means f s) (placing s) y r × (s' ≡ s)

abbrev pub Reads : {B : Type 0} → (B → Meaning) → Marker B → Told → Marker B → Type 0
Reads f s t s' =
    (r : Outcome) × (found_sure : Ruling) × (found_possible : Ruling) × (sure : Ruling) × (possible : Ruling)
    × (t ≡ reading_told r sure possible)
    × ReadInto (means f s) (placing s) r found_sure found_possible sure possible × (s' ≡ s)

abbrev pub Lists : {B : Type 0} → (B → Meaning) → ℕ → Marker B → Told → Marker B → Type 0
Lists f n s t s' =
    (r : Result Counts Fault) × (found : List Ruling) × (left : List Ruling)
    × (length found ≡ n) × (t ≡ listing_told r left)
    × Listed (means f s) (placing s) found r left × (s' ≡ s)

abbrev pub Audits : {B : Type 0} → (B → Meaning) → ℕ → Marker B → Told → Marker B → Type 0
Audits f n s t s' =
    (r : Result ℕ Fault) × (found : List UpwardReading) × (left : List UpwardReading)
    × (length found ≡ n) × (t ≡ audit_told r left)
    × Audited (means f s) (placing s) found r left × (s' ≡ s)

-- What the law wants to know of a call: the question that it puts, whether it is a change of the book, or neither.
pub data Kind : Type 0 where
  to_judge : Ruling → Kind
  to_judge_by_chapter : Ruling → Kind
  to_read : Kind
  to_list : ℕ → Kind
  to_change : Kind
  to_keep : Kind

-- A language of calls on markers over one type of book: what the books mean, the calls, what each does, and its kind.
-- Languages differ by the sort of book, and may grow.
pub record Language (B : Type 0) : Type 1 where
  pub meaning : B → Meaning
  pub Calls : Type 0
  pub does : Calls → Marker B → Told → Marker B → Type 0
  pub kind : Calls → Kind

-- the calls of a marker over a book
abbrev pub call_does : {B : Type 0} → Sort B → Call → Marker B → Told → Marker B → Type 0
call_does S (call.Open n) = Opens S n
call_does S (call.Enter a p q) = Enters S a p q
call_does S (call.Withdraw a) = Withdraws S a
call_does S (call.Place a k) = Places S.meaning a k
call_does S (call.Judge y) = Judges S.meaning y
call_does S (call.JudgeByChapter y) = JudgesByChapter S.meaning y
call_does S call.Read = Reads S.meaning
call_does S (call.List n) = Lists S.meaning n
call_does S (call.Audit n) = Audits S.meaning n

abbrev pub call_kind : Call → Kind
call_kind (call.Open n) = to_change
call_kind (call.Enter a p q) = to_change
call_kind (call.Withdraw a) = to_change
call_kind (call.Place a k) = to_keep
call_kind (call.Judge y) = to_judge y
call_kind (call.JudgeByChapter y) = to_judge_by_chapter y
call_kind call.Read = to_read
call_kind (call.List n) = to_list n
call_kind (call.Audit n) = to_keep

abbrev pub marker_calls : {B : Type 0} → Sort B → Language B
marker_calls S = record { meaning = S.meaning; Calls = Call; does = call_does S; kind = call_kind }
