-- What it is to serve the bytes of a reader and to write the replies. The bytes that a reader has left, and those that a writer
-- holds, are named where the type of reader or writer says them.
use Rattle.std.specs.Prelude.{◌≡◌, ℕ, ◌⊎◌, List, IfSome, Option}
use Rattle.std.specs.Io.KnownBytes.{Appends, Keeps}
use Rattle.books.specs.declared.book.Book.{Ghosts as Sort}
use Rattle.marker.specs.declared.marker.Marker.{Marker}
use Rattle.reader.specs.Streams.{ServedSoFar}
use Rattle.reader.specs.StreamLaw.{Served}

-- All is served: the input is all that the reader had left, and its replies stand behind what the writer held.
pub record ServedThrough {B : Type 0} (S : Sort B) (start : Marker B) (left held held' : Option (List ℕ)) (end : Marker B) : Type 0 where
  pub input : List ℕ
  pub output : List ℕ
  pub read : IfSome left (λ xs. input ≡ xs)
  pub served : Served S start input output end
  pub wrote : Appends held held' output

-- Not all is served: where reading or memory fails, the marker stands at the end of a history of the first calls, and nothing
-- is written; where writing fails, all records are done.
pub record ServedInPart {B : Type 0} (S : Sort B) (start : Marker B) (left held held' : Option (List ℕ)) (end : Marker B) : Type 0 where
  pub input : List ℕ
  pub read : IfSome left (λ xs. input ≡ xs)
  pub served : (ServedSoFar S start input end × Keeps held held') ⊎ ((output : List ℕ) × Served S start input output end)
