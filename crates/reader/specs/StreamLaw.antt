-- The law of two streams: what the replies say of the books, read whole.
use Rattle.std.specs.Prelude.{◌≡◌, ℕ, ◌<◌, ◌≤◌, ◌⊎◌, ◌↔◌, List, ◌++◌, length, take, drop, slice_index}
use Rattle.rulings.specs.Rulings.{has}
use Rattle.rulings.specs.declared.ruling.Ruling.{Ruling}
use Rattle.semantics.specs.Meaning.{Meaning}
use Rattle.semantics.specs.Closure.{Stable}
use Rattle.semantics.specs.Listing.{AllInRowOrder, Effort}
use Rattle.semantics.specs.WellFounded.{WellFounded}
use Rattle.answers.specs.declared.fault.Fault.{Fault}
use Rattle.books.specs.declared.book.Book.{Ghosts as Sort}
use Rattle.chapters.specs.Fitting.{UpwardDenied}
use Rattle.marker.specs.declared.marker.Marker.{Marker}
use Rattle.marker.specs.Judging.{StrayDenied}
use Rattle.runs.specs.declared.call.Call.{Call}
use Rattle.runs.specs.History.{AskedAt}
use Rattle.runs.specs.Law.{SameStable, SameModel, ByChapterDenied, ListingDenied, Compared}
use Rattle.runs.specs.Step.{Kind, to_judge, to_judge_by_chapter, to_read, to_list, to_change, marker_calls}
use Rattle.runs.specs.Told.{Told, reading, listing}
use Rattle.reader.specs.Replies.{fault_reply, reply_of}
use Rattle.reader.specs.Streams.{Stream, offset, TooLong, BeginsWith}

-- record i of a stream, of this kind, was replied to with these bytes, when the book meant m, in the chapters ch
pub record RepliedAt {B : Type 0} {S : Sort B} {s e : Marker B} {input output : List ℕ} (X : Stream S s input output e) (i : ℕ) (q : Kind) (m : Meaning) (ch : ℕ → ℕ) (reply : List ℕ) : Type 0 where
  pub told : Told
  pub asked : AskedAt X.history i q m ch told
  pub bytes : reply ≡ reply_of (offset X.calls i) told

-- some record of the stream, at this offset
abbrev pub RepliedIn : {B : Type 0} {S : Sort B} {s e : Marker B} {input output : List ℕ} → Stream S s input output e → ℕ → Kind → Meaning → (ℕ → ℕ) → List ℕ → Type 0
RepliedIn X o q m ch reply = (i : ℕ) × (o ≡ offset X.calls i) × RepliedAt X i q m ch reply

-- a record at this offset, in the one stream or in the other
abbrev pub InEither : {B C : Type 0} {S : Sort B} {S' : Sort C} {s e : Marker B} {s' e' : Marker C} {input output input' output' : List ℕ} →
    Stream S s input output e → Stream S' s' input' output' e' → ℕ → Kind → Meaning → (ℕ → ℕ) → List ℕ → Type 0
InEither X Y o q m ch reply = RepliedIn X o q m ch reply ⊎ RepliedIn Y o q m ch reply

-- the first byte of a reply tells what it is
abbrev pub Begins : ℕ → List ℕ → Type 0
Begins b reply = slice_index reply 0 ≡ b

-- a listing without its effort: the four bytes behind the count are left out
abbrev pub without_effort : List ℕ → List ℕ
without_effort reply = take 3 reply ++ drop 7 reply

-- the reply denies, whatever the fault
abbrev pub Denies : ℕ → List ℕ → Type 0
Denies o reply = (f : Fault) × (reply ≡ fault_reply o f)

-- a verdict says stable by its second byte, 0
abbrev pub RepliesStable : List ℕ → Type 0
RepliesStable reply = slice_index reply 1 ≡ 0

-- between the records i and j no change of the book was accepted: no record that opens, enters or withdraws was replied to
-- with the byte of a change that is done
pub record NoChangeAccepted {B : Type 0} {S : Sort B} {s e : Marker B} {input output : List ℕ} (X : Stream S s input output e) (i j : ℕ) : Type 0 where
  pub later : i < j
  pub denied : (n : ℕ) (m : Meaning) (ch : ℕ → ℕ) (reply : List ℕ) → i < n → n < j → RepliedAt X n to_change m ch reply → Begins 129 reply → ⊥

-- a ruling judged whole by record i and by chapter by record j, in either order, neither denied, and no change of the book
-- accepted in between: both replies say stable if it is stable in the book read whole, and else neither does
abbrev pub VerdictsAgree : {B : Type 0} {S : Sort B} {s e : Marker B} {input output : List ℕ} → Stream S s input output e → Type 0
VerdictsAgree X =
    (y : Ruling) (i j : ℕ) (m m' : Meaning) (ch ch' : ℕ → ℕ) (reply reply' : List ℕ) →
    RepliedAt X i (to_judge y) m ch reply → RepliedAt X j (to_judge_by_chapter y) m' ch' reply' → Begins 130 reply → Begins 130 reply' →
    NoChangeAccepted X i j ⊎ NoChangeAccepted X j i →
    (m ≡ m') × (RepliesStable reply ↔ Stable m (has y)) × (RepliesStable reply' ↔ Stable m (has y))

-- The law. In each clause a record stands at offset o, its book means m, and the points lie in the chapters ch.
pub record StreamLaw {B C : Type 0} {S : Sort B} {S' : Sort C} {s e : Marker B} {s' e' : Marker C} {input output input' output' : List ℕ} (X : Stream S s input output e) (Y : Stream S' s' input' output' e') : Type 0 where
  -- Judgings, readings and listings are denied exactly where the rules say, with that fault; a denied record gives
  -- no verdict, no reading and no listing, and any other gives one.
  pub judging_denied : (y : Ruling) (o : ℕ) (m : Meaning) (ch : ℕ → ℕ) (reply : List ℕ) → InEither X Y o (to_judge y) m ch reply →
      ((f : Fault) → (reply ≡ fault_reply o f) ↔ StrayDenied m y f) × (Begins 130 reply ↔ (Denies o reply → ⊥))
  pub judging_by_chapter_denied : (y : Ruling) (o : ℕ) (m : Meaning) (ch : ℕ → ℕ) (reply : List ℕ) → InEither X Y o (to_judge_by_chapter y) m ch reply →
      ((f : Fault) → (reply ≡ fault_reply o f) ↔ ByChapterDenied m ch y f) × (Begins 130 reply ↔ (Denies o reply → ⊥))
  pub reading_denied : (o : ℕ) (m : Meaning) (ch : ℕ → ℕ) (reply : List ℕ) → InEither X Y o to_read m ch reply →
      ((f : Fault) → (reply ≡ fault_reply o f) ↔ UpwardDenied m ch f) × (Begins 131 reply ↔ (Denies o reply → ⊥))
  pub listing_denied : (o : ℕ) (m : Meaning) (ch : ℕ → ℕ) (reply : List ℕ) → InEither X Y o (to_list 64) m ch reply →
      ((f : Fault) → (reply ≡ fault_reply o f) ↔ ListingDenied m ch 64 f) × (Begins 132 reply ↔ (Denies o reply → ⊥))
  -- A listing is of the stable rulings of the book read whole, each once, in row order, with the effort beside it;
  -- two listings, effort aside, are equal exactly when their books have the same stable rulings.
  pub listed : (o : ℕ) (m : Meaning) (ch : ℕ → ℕ) (reply : List ℕ) → InEither X Y o (to_list 64) m ch reply → Begins 132 reply →
      (rows : List Ruling) × (effort : ℕ) × (reply ≡ reply_of o (listing rows effort)) × AllInRowOrder (λ r. Stable m (has r)) rows × Effort m ch effort
  pub listings_equal : (o o' : ℕ) (m m' : Meaning) (ch ch' : ℕ → ℕ) (reply reply' : List ℕ) →
      InEither X Y o (to_list 64) m ch reply → InEither X Y o' (to_list 64) m' ch' reply' → Begins 132 reply → Begins 132 reply' →
      (without_effort reply ≡ without_effort reply') ↔ SameStable m m'
  -- a reading is of the well-founded model of the book read whole; two are equal exactly when their books have the same
  pub read : (o : ℕ) (m : Meaning) (ch : ℕ → ℕ) (reply : List ℕ) → InEither X Y o to_read m ch reply → Begins 131 reply →
      (sure : Ruling) × (possible : Ruling) × (reply ≡ reply_of o (reading sure possible)) × WellFounded m (has sure) (has possible)
  pub readings_equal : (o o' : ℕ) (m m' : Meaning) (ch ch' : ℕ → ℕ) (reply reply' : List ℕ) →
      InEither X Y o to_read m ch reply → InEither X Y o' to_read m' ch' reply' → Begins 131 reply → Begins 131 reply' →
      (reply ≡ reply') ↔ SameModel m m'
  -- a verdict, of the book or by chapter, says stable exactly if the ruling is stable in the book read whole
  pub judged_stable : (y : Ruling) (o : ℕ) (m : Meaning) (ch : ℕ → ℕ) (reply : List ℕ) → Begins 130 reply →
      InEither X Y o (to_judge y) m ch reply ⊎ InEither X Y o (to_judge_by_chapter y) m ch reply → RepliesStable reply ↔ Stable m (has y)
  -- and the two agree, in the one stream and in the other
  pub verdicts_agree : VerdictsAgree X
  pub other_verdicts_agree : VerdictsAgree Y

-- the law holds of any two streams
abbrev pub LawOfAllStreams : {B C : Type 0} → Sort B → Sort C → Type 0
LawOfAllStreams {B} {C} S S' =
    (s e : Marker B) (s' e' : Marker C) (input output input' output' : List ℕ)
    (X : Stream S s input output e) (Y : Stream S' s' input' output' e') → StreamLaw X Y

-- a stream, with its law: within itself, and with every other stream of a marker over the same type of book
abbrev pub LawfulStream : {B : Type 0} → Sort B → Marker B → List ℕ → List ℕ → Marker B → Type 0
LawfulStream {B} S s input output e =
    (X : Stream S s input output e) × StreamLaw X X
    × ((s' e' : Marker B) (input' output' : List ℕ) (Y : Stream S s' input' output' e') → StreamLaw X Y)

-- Serving an input: it is too long; or all of it is a stream, with its law.
abbrev pub Served : {B : Type 0} → Sort B → Marker B → List ℕ → List ℕ → Marker B → Type 0
Served S s input output e = TooLong s input output e ⊎ ((length input ≤ 32768) × LawfulStream S s input output e)

-- Two inputs served, on two markers: each as it is served alone, and the law across the two streams.
pub record ServedBoth {B C : Type 0} (S : Sort B) (s : Marker B) (input output : List ℕ) (e : Marker B) (S' : Sort C) (s' : Marker C) (input' output' : List ℕ) (e' : Marker C) : Type 0 where
  pub first : Served S s input output e
  pub second : Served S' s' input' output' e'
  pub law : (X : Stream S s input output e) (Y : Stream S' s' input' output' e') → StreamLaw X Y

-- where memory ran out: each marker stands at the end of a history of the first calls of its input, and the law of two runs
-- holds of the two
abbrev pub ServedBothSoFar : {B C : Type 0} → Sort B → Marker B → List ℕ → Marker B → Sort C → Marker C → List ℕ → Marker C → Type 0
ServedBothSoFar S s input e S' s' input' e' =
    (calls : List Call) × (calls' : List Call) × (answers : List Told) × (answers' : List Told)
    × BeginsWith calls input × BeginsWith calls' input' × Compared (marker_calls S) s calls answers e (marker_calls S') s' calls' answers' e'
