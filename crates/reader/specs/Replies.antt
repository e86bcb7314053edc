-- The format of replies.
use Rattle.std.specs.Prelude.{◌≡◌, ℕ, zero, suc, ◌/◌, ◌%◌, ◌^◌, ◌<◌, List, [], ◌∷◌, ◌++◌, length, drop, Some, None}
use Rattle.std.specs.List.{flat_map}
use Rattle.rulings.specs.declared.ruling.Ruling.{Ruling}
use Rattle.answers.specs.declared.audit.UpwardReading.{UpwardReading}
use Rattle.answers.specs.declared.fault.Fault.{Fault}
use Rattle.answers.specs.Faults.{number, places, layer_number}
use Rattle.answers.specs.Verdicts.{or_255, verdict_told}
use Rattle.reader.specs.declared.mark.Mark.{Mark}
use Rattle.reader.specs.declared.mark.Mark.TheVariants as mark
use Rattle.runs.specs.Told.{Told, done, verdict, chapter_verdict, reading, listing, audit, denied}

-- the byte that a reply, or a row in it, begins with
abbrev pub mark_byte : Mark → ℕ
mark_byte mark.Done = 129
mark_byte mark.Verdict = 130
mark_byte mark.Reading = 131
mark_byte mark.Listing = 132
mark_byte mark.RulingRow = 133
mark_byte mark.Audit = 134
mark_byte mark.UpwardRow = 135
mark_byte mark.Denial = 255

-- a number in so many bytes, least byte first
abbrev pub least_first : ℕ → ℕ → List ℕ
least_first zero n = []
least_first (suc k) n = n % 256 ∷ least_first k (n / 256)

-- a denial: number, layer, two places (255 where there is none), the offset of the record in 4 bytes
abbrev pub fault_reply : ℕ → Fault → List ℕ
fault_reply offset f =
    mark_byte mark.Denial ∷ number f.refusal ∷ layer_number f.layer ∷ or_255 (places f.refusal).0 ∷ or_255 (places f.refusal).1 ∷ least_first 4 offset

-- a row of a listing, and a row of an audit
abbrev pub ruling_row : Ruling → List ℕ
ruling_row r = mark_byte mark.RulingRow ∷ r.bytes

abbrev pub upward_row : UpwardReading → List ℕ
upward_row u = mark_byte mark.UpwardRow ∷ u.drop ∷ u.reader ∷ u.read ∷ []

-- The reply to a record at an offset, by what its call told.
abbrev pub reply_of : ℕ → Told → List ℕ
reply_of offset done = mark_byte mark.Done ∷ []
reply_of offset (verdict v) = mark_byte mark.Verdict ∷ verdict_told v None
reply_of offset (chapter_verdict w) = mark_byte mark.Verdict ∷ verdict_told w.verdict w.chapter
reply_of offset (reading sure possible) = mark_byte mark.Reading ∷ sure.bytes ++ possible.bytes
reply_of offset (listing rows effort) = mark_byte mark.Listing ∷ least_first 2 (length rows) ++ least_first 4 effort ++ flat_map ruling_row rows
reply_of offset (audit rows) = mark_byte mark.Audit ∷ least_first 2 (length rows) ++ flat_map upward_row rows
reply_of offset (denied f) = fault_reply offset f

-- the reply stands at the front of the buffer, and behind it the buffer is as found
abbrev pub Wrote : List ℕ → List ℕ → List ℕ → Type 0
Wrote reply found left = left ≡ reply ++ drop (length reply) found

-- What a reply tells of an answer: a verdict of the whole book is told as one by chapters that names no chapter.
abbrev pub as_told : Told → Told
as_told done = done
as_told (verdict v) = chapter_verdict (record { verdict = v; chapter = None })
as_told (chapter_verdict w) = chapter_verdict w
as_told (reading sure possible) = reading sure possible
as_told (listing rows effort) = listing rows effort
as_told (audit rows) = audit rows
as_told (denied f) = denied f

-- an answer that a reply has room for: an effort of four bytes, and a chapter that is not 255
abbrev pub Fits : Told → Type 0
Fits done = Unit {0}
Fits (verdict v) = Unit {0}
Fits (chapter_verdict w) = w.chapter ≡ Some 255 → ⊥
Fits (reading sure possible) = Unit {0}
Fits (listing rows effort) = effort < 2 ^ 32
Fits (audit rows) = Unit {0}
Fits (denied f) = Unit {0}

-- a reply determines the answer that it encodes
abbrev pub ReplyDetermines : Type 0
ReplyDetermines =
    (o o' : ℕ) (t t' : Told) → Fits t → Fits t' → reply_of o t ≡ reply_of o' t' → as_told t ≡ as_told t'
