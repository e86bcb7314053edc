-- Whole streams: all records of an input, and all replies.
use Rattle.std.specs.Prelude.{◌≡◌, ℕ, ◌+◌, ◌<◌, List, [], ◌∷◌, ◌++◌, length, take, Ok, Err}
use Rattle.std.specs.List.{ContainsAt}
use Rattle.answers.specs.declared.fault.Refusal.TheVariants.{InputTooLong}
use Rattle.books.specs.declared.book.Book.{Ghosts as Sort}
use Rattle.marker.specs.declared.marker.Marker.{Marker}
use Rattle.runs.specs.declared.call.Call.{Call}
use Rattle.runs.specs.History.{History}
use Rattle.runs.specs.Step.{marker_calls}
use Rattle.runs.specs.Told.{Told}
use Rattle.reader.specs.Records.{Front, Lends64, record_of, records_of, ReadsAs}
use Rattle.reader.specs.Replies.{fault_reply, reply_of}
use Rattle.reader.specs.Turns.{reader_fault}
use Rattle.reader.specs.Unreadable.{refusal_of}

-- the offset of record i
abbrev pub offset : List Call → ℕ → ℕ
offset calls i = length (records_of (take i calls))

-- the replies to calls with these answers, the first record at an offset
abbrev pub replies : ℕ → List Call → List Told → List ℕ
replies o [] ts = []
replies o (c ∷ cs) [] = []
replies o (c ∷ cs) (t ∷ ts) = reply_of o t ++ replies (o + length (record_of c)) cs ts

-- the reply to what ends an input, at an offset
abbrev pub last_reply : ℕ → Front → List ℕ
last_reply o (Ok r) = []
last_reply o (Err why) = fault_reply o (reader_fault (refusal_of why))

-- A stream: the input reads as calls; they have a history on the marker, from the one handed over to the one left;
-- and the output is the replies to them, one behind the other, and to what ends the input.
pub record Stream {B : Type 0} (S : Sort B) (start : Marker B) (input output : List ℕ) (end : Marker B) : Type 0 where
  pub calls : List Call
  pub answers : List Told
  pub ending : Front
  pub read : ReadsAs input calls ending
  pub history : History (marker_calls S) start calls answers end
  pub replied : output ≡ replies 0 calls answers ++ last_reply (length (records_of calls)) ending

-- an input that is too long is replied to with that, at offset 0, and leaves the marker as found
abbrev pub TooLong : {B : Type 0} → Marker B → List ℕ → List ℕ → Marker B → Type 0
TooLong start input output end =
    (32768 < length input) × (output ≡ fault_reply 0 (reader_fault InputTooLong)) × (end ≡ start)

-- the input begins with the records of these calls
abbrev pub BeginsWith : List Call → List ℕ → Type 0
BeginsWith calls input =
    ((c : Call) → ContainsAt calls c → Lends64 c) × ((rest : List ℕ) × (input ≡ records_of calls ++ rest))

-- where memory ran out: the marker stands at the end of a history of the first calls of the input
abbrev pub ServedSoFar : {B : Type 0} → Sort B → Marker B → List ℕ → Marker B → Type 0
ServedSoFar S start input end =
    (calls : List Call) × (answers : List Told) × BeginsWith calls input × History (marker_calls S) start calls answers end
