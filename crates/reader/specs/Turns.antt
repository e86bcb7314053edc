-- One turn of the reader: it does one record, and writes its reply.
use Rattle.std.specs.Prelude.{◌≡◌, ℕ, ◌+◌, ◌<◌, ◌≤◌, ◌⊎◌, List, length, drop, Some, None, Ok, Err, Option, Result}
use Rattle.answers.specs.declared.fault.Fault.{Fault}
use Rattle.answers.specs.declared.fault.Layer.TheVariants as layer
use Rattle.answers.specs.declared.fault.Refusal.{Refusal}
use Rattle.answers.specs.declared.fault.Refusal.TheVariants.{InputTooLong, ReplyTooShort}
use Rattle.answers.specs.Faults.{fault_of}
use Rattle.books.specs.declared.book.Book.{Ghosts as Sort}
use Rattle.marker.specs.declared.marker.Marker.{Marker}
use Rattle.runs.specs.Step.{call_does}
use Rattle.runs.specs.Told.{Told}
use Rattle.reader.specs.Records.{Front, AtFront}
use Rattle.reader.specs.Replies.{fault_reply, reply_of, Wrote}
use Rattle.reader.specs.Unreadable.{refusal_of}

-- a fault of the reader
abbrev pub reader_fault : Refusal → Fault
reader_fault why = fault_of layer.Reader why

-- What a turn replies and does by what stands at the place where the reading is: the reading's place and the marker, before and after.
-- What cannot be read puts the reading at its end and leaves the marker as found.
abbrev pub Does : {B : Type 0} → Sort B → List ℕ → Front → ℕ → Marker B → Option (List ℕ) → ℕ → Marker B → Type 0
Does S input (Ok None) at s reply at' s' = (reply ≡ None) × (at' ≡ at) × (s' ≡ s)
Does S input (Ok (Some r)) at s reply at' s' =
    (t : Told) × call_does S r.call s t s' × (reply ≡ Some (reply_of at t)) × (at' ≡ at + r.length)
Does S input (Err why) at s reply at' s' =
    (reply ≡ Some (fault_reply at (reader_fault (refusal_of why)))) × (at' ≡ length input) × (s' ≡ s)

-- the record at the front of what is left is done, and its reply, if there is one, is this
abbrev pub TakesRecord : {B : Type 0} → Sort B → List ℕ → ℕ → Marker B → Option (List ℕ) → ℕ → Marker B → Type 0
TakesRecord S input at s reply at' s' = (f : Front) × AtFront (drop at input) f × Does S input f at s reply at' s'

-- a reply is written, and its length answered; where there is none, the buffer is as found
abbrev pub Replied : Option (List ℕ) → List ℕ → Result (Option ℕ) Fault → List ℕ → Type 0
Replied None found r left = (r ≡ Ok None) × (left ≡ found)
Replied (Some reply) found r left = (r ≡ Ok (Some (length reply))) × Wrote reply found left

-- refused, with all as found
abbrev pub Refuses : {B : Type 0} → Refusal → ℕ → List ℕ → Marker B → Result (Option ℕ) Fault → ℕ → List ℕ → Marker B → Type 0
Refuses why at found s r at' left s' = (r ≡ Err (reader_fault why)) × (at' ≡ at) × (left ≡ found) × (s' ≡ s)

-- One turn: input too long goes before all, then reply too short; else one record is done.
abbrev pub Turned : {B : Type 0} → Sort B → List ℕ → ℕ → List ℕ → Marker B → Result (Option ℕ) Fault → ℕ → List ℕ → Marker B → Type 0
Turned S input at found s r at' left s' =
    ((32768 < length input) × Refuses InputTooLong at found s r at' left s')
    ⊎ (((length input ≤ 32768) × (length found < 1095) × Refuses ReplyTooShort at found s r at' left s')
    ⊎ ((length input ≤ 32768) × (1095 ≤ length found)
    × ((reply : Option (List ℕ)) × TakesRecord S input at s reply at' s' × Replied reply found r left)))
