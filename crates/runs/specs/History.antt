-- Histories: the moments of a run of calls.
use Rattle.std.specs.Prelude.{◌≡◌, ℕ, ◌+◌, ◌<◌, ◌≤◌, List, length, take, Some, ◌≢◌}
use Rattle.std.specs.List.{slice_get}
use Rattle.semantics.specs.Meaning.{Meaning}
use Rattle.marker.specs.declared.marker.Marker.{Marker}
use Rattle.marker.specs.State.{placing}
use Rattle.runs.specs.Step.{Language, Kind, to_change, means}
use Rattle.runs.specs.Told.{Told, done}

-- A history: the marker at each moment, from the one handed over to the one left; each call, made at its moment,
-- does what its language says, and tells its answer.
pub record History {B : Type 0} (L : Language B) (start : Marker B) (calls : List L.Calls) (answers : List Told) (end : Marker B) : Type 0 where
  pub moment : ℕ → Marker B
  pub starts : moment 0 ≡ start
  pub ends : moment (length calls) ≡ end
  pub each : length answers ≡ length calls
  pub step : (i : ℕ) (c : L.Calls) (t : Told) → slice_get calls i ≡ Some c → slice_get answers i ≡ Some t → L.does c (moment i) t (moment (i + 1))

-- where memory ran out: a history of the calls made so far
abbrev pub BrokenOff : {B : Type 0} → (L : Language B) → Marker B → List L.Calls → Marker B → Type 0
BrokenOff L start calls end =
    (n : ℕ) × (answers : List Told) × (n ≤ length calls) × History L start (take n calls) answers end

-- at moment i a call of this kind was made, and told t; the book then meant m, and the points lay in the chapters ch
pub record AskedAt {B : Type 0} {L : Language B} {s e : Marker B} {cs : List L.Calls} {ts : List Told} (h : History L s cs ts e) (i : ℕ) (q : Kind) (m : Meaning) (ch : ℕ → ℕ) (t : Told) : Type 0 where
  pub call : L.Calls
  pub made : slice_get cs i ≡ Some call
  pub of_kind : L.kind call ≡ q
  pub answered : slice_get ts i ≡ Some t
  pub meant : means L.meaning (h.moment i) ≡ m
  pub placed : placing (h.moment i) ≡ ch

-- at some moment
abbrev pub Asked : {B : Type 0} {L : Language B} {s e : Marker B} {cs : List L.Calls} {ts : List Told} → History L s cs ts e → Kind → Meaning → (ℕ → ℕ) → Told → Type 0
Asked h q m ch t = (i : ℕ) × AskedAt h i q m ch t

-- no change of the book was accepted between the moments i and j
pub record Unchanged {B : Type 0} {L : Language B} {s e : Marker B} {cs : List L.Calls} {ts : List Told} (h : History L s cs ts e) (i j : ℕ) : Type 0 where
  pub later : i < j
  pub denied : (n : ℕ) (c : L.Calls) (t : Told) → i < n → n < j → slice_get cs n ≡ Some c → slice_get ts n ≡ Some t → L.kind c ≡ to_change → t ≢ done
