-- A call carried out, and the reply to it. No public contract cites this file.
use Rattle.std.specs.Prelude.{◌≡◌, ℕ, List, Ok, Err, Result}
use Rattle.answers.specs.declared.fault.Fault.{Fault}
use Rattle.books.specs.declared.book.Book.{Ghosts as Sort}
use Rattle.marker.specs.declared.marker.Marker.{Marker}
use Rattle.runs.specs.declared.call.Call.{Call}
use Rattle.runs.specs.Step.{call_does}
use Rattle.runs.specs.Told.{Told, denied}
use Rattle.reader.specs.Replies.{reply_of}
use Rattle.reader.specs.Writing.{WroteAll}

-- what a call told, as a fault that is passed on, with the buffer as found, or as a reply that is written: the same at every
-- offset, since only a denial has one
abbrev pub RepliesAs : Told → List ℕ → Result ℕ Fault → List ℕ → Type 0
RepliesAs t found (Ok n) left = (o : ℕ) → WroteAll (reply_of o t) found n left
RepliesAs t found (Err f) left = (t ≡ denied f) × (left ≡ found)

-- a call carried out: it does what it does, and its answer is replied to
abbrev pub Carried : {B : Type 0} → Sort B → Call → Marker B → List ℕ → Result ℕ Fault → List ℕ → Marker B → Type 0
Carried S c s found r left s' = (t : Told) × call_does S c s t s' × RepliesAs t found r left
