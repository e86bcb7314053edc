-- The format of records: a kind byte, then a body.
use Rattle.std.specs.Prelude.{◌≡◌, ℕ, ◌<◌, List, [], ◌∷◌, ◌++◌, length, Some, None, Ok, Err, Option, Result, ◌≢◌, slice_index}
use Rattle.std.specs.List.{ContainsAt, flat_map}
use Rattle.runs.specs.declared.call.Call.{Call}
use Rattle.runs.specs.declared.call.Call.TheVariants as call
use Rattle.reader.specs.declared.kind.Kind.{Kind}
use Rattle.reader.specs.declared.kind.Kind.TheVariants as kind
use Rattle.reader.specs.declared.front.Record.{Record}
use Rattle.reader.specs.declared.unreadable.Unreadable.{Unreadable}
use Rattle.reader.specs.declared.unreadable.Unreadable.TheVariants as unreadable

-- the table of kinds: the kind byte, and how long the body is
abbrev pub kind_byte : Kind → ℕ
kind_byte kind.Open = 1
kind_byte kind.Enter = 2
kind_byte kind.Withdraw = 3
kind_byte kind.Place = 4
kind_byte kind.Judge = 5
kind_byte kind.JudgeByChapter = 6
kind_byte kind.Read = 7
kind_byte kind.List = 8
kind_byte kind.Audit = 9

abbrev pub body_length : Kind → ℕ
body_length kind.Open = 1
body_length kind.Enter = 33
body_length kind.Withdraw = 1
body_length kind.Place = 2
body_length kind.Judge = 16
body_length kind.JudgeByChapter = 16
body_length kind.Read = 0
body_length kind.List = 0
body_length kind.Audit = 0

-- the kind that a byte stands for; a byte that stands for none is unknown
abbrev pub OfByte : ℕ → Result Kind Unreadable → Type 0
OfByte b (Ok k) = kind_byte k ≡ b
OfByte b (Err unreadable.Unknown) = (k : Kind) → kind_byte k ≢ b
OfByte b (Err unreadable.Cut) = ⊥

-- The record of a call: a point, size or chapter is one byte, a ruling its sixteen.
abbrev pub kind_of : Call → Kind
kind_of (call.Open n) = kind.Open
kind_of (call.Enter a p q) = kind.Enter
kind_of (call.Withdraw a) = kind.Withdraw
kind_of (call.Place a k) = kind.Place
kind_of (call.Judge y) = kind.Judge
kind_of (call.JudgeByChapter y) = kind.JudgeByChapter
kind_of call.Read = kind.Read
kind_of (call.List n) = kind.List
kind_of (call.Audit n) = kind.Audit

abbrev pub body_of : Call → List ℕ
body_of (call.Open n) = n ∷ []
body_of (call.Enter a p q) = a ∷ p.bytes ++ q.bytes
body_of (call.Withdraw a) = a ∷ []
body_of (call.Place a k) = a ∷ k ∷ []
body_of (call.Judge y) = y.bytes
body_of (call.JudgeByChapter y) = y.bytes
body_of call.Read = []
body_of (call.List n) = []
body_of (call.Audit n) = []

abbrev pub record_of : Call → List ℕ
record_of c = kind_byte (kind_of c) ∷ body_of c

-- the call lends 64 rows, if it lends any: a record has no place for another number
abbrev pub Lends64 : Call → Type 0
Lends64 (call.Open n) = Unit {0}
Lends64 (call.Enter a p q) = Unit {0}
Lends64 (call.Withdraw a) = Unit {0}
Lends64 (call.Place a k) = Unit {0}
Lends64 (call.Judge y) = Unit {0}
Lends64 (call.JudgeByChapter y) = Unit {0}
Lends64 call.Read = Unit {0}
Lends64 (call.List n) = n ≡ 64
Lends64 (call.Audit n) = n ≡ 64

-- what stands at a place: the record of a call; nothing; or what cannot be read
abbrev pub Front : Type 0
Front = Result (Option Record) Unreadable

-- What stands at the front of some bytes: nothing; the record of a call, of some length; a kind byte that is none in the table;
-- or a kind byte with less behind it than the body takes.
abbrev pub AtFront : List ℕ → Front → Type 0
AtFront xs (Ok None) = xs ≡ []
AtFront xs (Ok (Some r)) =
    Lends64 r.call × (r.length ≡ length (record_of r.call)) × ((rest : List ℕ) × (xs ≡ record_of r.call ++ rest))
AtFront xs (Err unreadable.Unknown) = (b : ℕ) × (rest : List ℕ) × (xs ≡ b ∷ rest) × OfByte b (Err unreadable.Unknown)
AtFront xs (Err unreadable.Cut) = (k : Kind) × (rest : List ℕ) × (xs ≡ kind_byte k ∷ rest) × (length rest < body_length k)

-- the records of some calls, one behind the other
abbrev pub records_of : List Call → List ℕ
records_of cs = flat_map record_of cs

-- how an input ends: with its last record, or at one that is unknown or cut
abbrev pub Ends : Front → Type 0
Ends (Ok None) = Unit {0}
Ends (Ok (Some r)) = ⊥
Ends (Err why) = Unit {0}

-- the input reads as these calls, and so ends
pub record ReadsAs (input : List ℕ) (calls : List Call) (ending : Front) : Type 0 where
  pub lends : (c : Call) → ContainsAt calls c → Lends64 c
  pub tail : List ℕ
  pub bytes : input ≡ records_of calls ++ tail
  pub at_tail : AtFront tail ending
  pub ends : Ends ending

-- every input of bytes reads as some calls, with some ending
abbrev pub ReadsSomeWay : Type 0
ReadsSomeWay = (input : List ℕ) → ((i : ℕ) → slice_index input i < 256) → (cs : List Call) × (e : Front) × ReadsAs input cs e

-- and none reads as two lists of calls, or with two endings
abbrev pub ReadOneWay : Type 0
ReadOneWay = (input : List ℕ) (cs ds : List Call) (e f : Front) → ReadsAs input cs e → ReadsAs input ds f → (cs ≡ ds) × (e ≡ f)

-- the records of any calls that lend 64 rows read as these calls, and as no others
abbrev pub RecordsReadBack : Type 0
RecordsReadBack =
    (cs : List Call) → ((c : Call) → ContainsAt cs c → Lends64 c) →
    ReadsAs (records_of cs) cs (Ok None) × ((ds : List Call) (e : Front) → ReadsAs (records_of cs) ds e → (ds ≡ cs) × (e ≡ Ok None))
