-- What a call owes by its kind, and that each of a marker's calls is a step of its kind.
use Rattle.std.proofs.Common.{◌≡◌, ℕ, ◌⊎◌, Ok, Err, refl, ap, inl, inr}
use Rattle.rulings.specs.declared.ruling.Ruling.{Ruling}
use Rattle.semantics.specs.Meaning.{Meaning, Lawful}
use Rattle.books.specs.declared.book.Book.{Ghosts as Sort}
use Rattle.answers.specs.declared.fault.Fault.{Fault}
use Rattle.books.specs.Promise.{Outcome, Opening, Entering, Withdrawing}
use Rattle.marker.specs.declared.marker.Marker.{Marker}
use Rattle.marker.specs.State.{book_of, Placed}
use Rattle.runs.specs.declared.call.Call.{Call}
use Rattle.runs.specs.declared.call.Call.TheVariants as call
use Rattle.runs.specs.Step.{Language, Kind, to_judge, to_judge_by_chapter, to_read, to_list, to_change, to_keep, means, Judges, JudgesByChapter, Reads, Lists, call_does, call_kind, marker_calls}
use Rattle.runs.specs.Told.{Told, done, denied, outcome_told}

-- What a step of each kind is. A change answers done, or is denied and alters no answer of the book;
-- a call that neither asks one of the four questions nor changes the book alters no answer of it.
abbrev pub StepOf : {B : Type 0} → (B → Meaning) → Kind → Marker B → Told → Marker B → Type 0
StepOf f (to_judge y) s t s' = Judges f y s t s'
StepOf f (to_judge_by_chapter y) s t s' = JudgesByChapter f y s t s'
StepOf f to_read s t s' = Reads f s t s'
StepOf f (to_list n) s t s' = Lists f n s t s'
StepOf f to_change s t s' = (t ≡ done) ⊎ ((why : Fault) × (t ≡ denied why) × (means f s' ≡ means f s))
StepOf f to_keep s t s' = means f s' ≡ means f s

-- what the law asks of a language: its books are lawful, and each call is a step of its kind
pub record Keeps {B : Type 0} (L : Language B) : Type 0 where
  pub lawful : (b : B) → Lawful (L.meaning b)
  pub owed : (c : L.Calls) (s : Marker B) (t : Told) (s' : Marker B) → L.does c s t s' → StepOf L.meaning (L.kind c) s t s'

-- what every sort of book promises
pub record Promises {B : Type 0} (S : Sort B) : Type 0 where
  pub lawful : (b : B) → Lawful (S.meaning b)
  pub opens : (b : B) (n : ℕ) (r : Outcome) (b' : B) → S.opened b n r b' → Opening (S.meaning b) n r (S.meaning b')
  pub enters : (b : B) (a : ℕ) (p q : Ruling) (r : Outcome) (b' : B) → S.entered b a p q r b' → Entering (S.meaning b) a p q r (S.meaning b')
  pub withdraws : (b : B) (a : ℕ) (r : Outcome) (b' : B) → S.withdrawn b a r b' → Withdrawing (S.meaning b) a r (S.meaning b')

-- a change that alters nothing where it is denied
pub change : (m m' : Meaning) (r : Outcome) (t : Told) → t ≡ outcome_told r → ((why : Fault) → r ≡ Err why → m' ≡ m) →
    (t ≡ done) ⊎ ((why : Fault) × (t ≡ denied why) × (m' ≡ m))
change m m' (Ok _) t e unaltered = inl e
change m m' (Err why) t e unaltered = inr (why, e, unaltered why refl)

module _ {B : Type 0} (S : Sort B) where
  placing : (n : ℕ) (s : Marker B) (a k : ℕ) (r : Outcome) (s' : Marker B) → Placed n s a k r s' → means S.meaning s' ≡ means S.meaning s
  placing n s a k (Ok _) s' p = ap S.meaning p.2
  placing n s a k (Err f) s' p = ap (means S.meaning) p.1

  steps : Promises S → (c : Call) (s : Marker B) (t : Told) (s' : Marker B) → call_does S c s t s' → StepOf S.meaning (call_kind c) s t s'
  steps p (call.Open n) s t s' (r, e, d, _) =
      change (means S.meaning s) (means S.meaning s') r t e (p.opens (book_of s) n r (book_of s') d).unaltered
  steps p (call.Enter a x y) s t s' (r, e, d, _) =
      change (means S.meaning s) (means S.meaning s') r t e (p.enters (book_of s) a x y r (book_of s') d).unaltered
  steps p (call.Withdraw a) s t s' (r, e, d, _) =
      change (means S.meaning s) (means S.meaning s') r t e (p.withdraws (book_of s) a r (book_of s') d).unaltered
  steps p (call.Place a k) s t s' (r, e, d) = placing (means S.meaning s).size s a k r s' d
  steps p (call.Judge y) s t s' d = d
  steps p (call.JudgeByChapter y) s t s' d = d
  steps p call.Read s t s' d = d
  steps p (call.List n) s t s' d = d
  steps p (call.Audit n) s t s' (r, found, left, long, e, d, same) = ap (means S.meaning) same

  pub marker_keeps : Promises S → Keeps (marker_calls S)
  marker_keeps p = record { lawful = p.lawful; owed = steps p }
