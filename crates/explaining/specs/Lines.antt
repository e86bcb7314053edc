-- What a line of an explanation tells, and what taking it does.
use Rattle.std.specs.Prelude.{◌≡◌, ℕ, ◌+◌, ◌<◌, ◌≤◌, List, [], ◌∷◌, length, drop, Some, None, Ok, Err, Option}
use Rattle.books.specs.declared.book.Book.{Ghosts}
use Rattle.marker.specs.declared.marker.Marker.{Marker}
use Rattle.runs.specs.History.{BrokenOff}
use Rattle.runs.specs.Step.{call_does, marker_calls}
use Rattle.runs.specs.Told.{told}
use Rattle.reader.specs.declared.front.Record.{Record}
use Rattle.reader.specs.Records.{AtFront}
use Rattle.explaining.specs.declared.sort.Sort.{Sort}
use Rattle.explaining.specs.declared.line.Line.{Line}
use Rattle.explaining.specs.declared.line.Line.TheVariants.{TooLong, Answered, Stopped}

-- Taking a line, from a place in an input and a marker to the place and the marker after it.
-- None where nothing is left. Once where the input is too long. Else of the record that stands at the place: its call is
-- made, does what the call of a marker does, and what it answers is told. Or of what cannot be read there, and why.
-- But for a call, the marker is left as found.
abbrev pub TakesLine : {B : Type 0} → Ghosts B → Sort → List ℕ → ℕ → Marker B → Option Line → ℕ → Marker B → Type 0
TakesLine S sort input at s None at' s' = (drop at input ≡ []) × (at' ≡ at) × (s' ≡ s)
TakesLine S sort input at s (Some TooLong) at' s' =
    (32768 < length input) × (at < length input) × (at' ≡ length input) × (s' ≡ s)
TakesLine S sort input at s (Some (Answered sort' call answer)) at' s' =
    (length input ≤ 32768) × (sort' ≡ sort) × call_does S call s (told answer) s'
    × ((n : ℕ) × AtFront (drop at input) (Ok (Some (record { call = call; length = n }))) × (at' ≡ at + n))
TakesLine S sort input at s (Some (Stopped place why)) at' s' =
    (length input ≤ 32768) × (place ≡ at) × AtFront (drop at input) (Err why) × (at' ≡ length input) × (s' ≡ s)

-- where memory ran out: the call of the record that stands at the place was made, or was not; the place is as found
abbrev pub BreaksOff : {B : Type 0} → Ghosts B → List ℕ → ℕ → Marker B → ℕ → Marker B → Type 0
BreaksOff S input at s at' s' =
    (length input ≤ 32768) × (at' ≡ at)
    × ((r : Record) × AtFront (drop at input) (Ok (Some r)) × BrokenOff (marker_calls S) s (r.call ∷ []) s')
