-- The law of two runs: what is denied, listed, read and judged in them, by the books read whole.
use Rattle.std.specs.Prelude.{◌≡◌, ℕ, ◌≤◌, ◌⊎◌, ◌↔◌, List, length, take, ◌≢◌}
use Rattle.rulings.specs.Points.{Points}
use Rattle.rulings.specs.Rulings.{has}
use Rattle.rulings.specs.declared.ruling.Ruling.{Ruling}
use Rattle.semantics.specs.Meaning.{Meaning}
use Rattle.semantics.specs.Closure.{Stable}
use Rattle.semantics.specs.Listing.{AllInRowOrder, Effort}
use Rattle.semantics.specs.WellFounded.{WellFounded}
use Rattle.answers.specs.declared.fault.Fault.{Fault}
use Rattle.marker.specs.declared.marker.Marker.{Marker}
use Rattle.answers.specs.declared.verdict.Verdict.{Verdict}
use Rattle.answers.specs.declared.verdict.Verdict.TheVariants as says
use Rattle.answers.specs.declared.verdict.ChapterVerdict.{ChapterVerdict}
use Rattle.chapters.specs.Fitting.{UpwardDenied}
use Rattle.marker.specs.Judging.{NoStray, StrayDenied}
use Rattle.marker.specs.Listing.{NotTried, TriedInVain}
use Rattle.runs.specs.History.{History, AskedAt, Asked, Unchanged}
use Rattle.runs.specs.Step.{Language, Kind, to_judge, to_judge_by_chapter, to_read, to_list}
use Rattle.runs.specs.Told.{Told, verdict, chapter_verdict, reading, listing, denied}

-- two books, read whole, have the same stable rulings
abbrev pub SameStable : Meaning → Meaning → Type 0
SameStable m m' = (r : Ruling) → Stable m (has r) ↔ Stable m' (has r)

-- two books, read whole, have the same well-founded model
abbrev pub SameModel : Meaning → Meaning → Type 0
SameModel m m' = (S P : Points) → WellFounded m S P ↔ WellFounded m' S P

-- the rules for denying a judging by chapter, and a listing into n rows
abbrev pub ByChapterDenied : Meaning → (ℕ → ℕ) → Ruling → Fault → Type 0
ByChapterDenied m ch y f = StrayDenied m y f ⊎ (NoStray m y × UpwardDenied m ch f)

abbrev pub ListingDenied : Meaning → (ℕ → ℕ) → ℕ → Fault → Type 0
ListingDenied m ch n f = NotTried m ch f ⊎ TriedInVain m ch n f

abbrev pub NotDenied : Told → Type 0
NotDenied t = (f : Fault) → t ≢ denied f

-- A ruling judged whole at moment i and by chapter at moment j, in either order, neither denied, and no change of the
-- book accepted in between: the book means the same at both, and both say stable exactly if the ruling is stable in it, read whole.
abbrev pub JudgingsAgree : {B : Type 0} {L : Language B} {s e : Marker B} {cs : List L.Calls} {ts : List Told} → History L s cs ts e → Type 0
JudgingsAgree h =
    (y : Ruling) (i j : ℕ) (m m' : Meaning) (ch ch' : ℕ → ℕ) (v : Verdict) (w : ChapterVerdict) →
    AskedAt h i (to_judge y) m ch (verdict v) → AskedAt h j (to_judge_by_chapter y) m' ch' (chapter_verdict w) →
    Unchanged h i j ⊎ Unchanged h j i →
    (m ≡ m') × ((v ≡ says.Stable) ↔ Stable m (has y)) × ((w.verdict ≡ says.Stable) ↔ Stable m (has y))

-- asked in the one run or in the other
abbrev pub Either : {B C : Type 0} {L : Language B} {M : Language C} {s e : Marker B} {s' e' : Marker C} {cs : List L.Calls} {cs' : List M.Calls} {ts ts' : List Told} →
    History L s cs ts e → History M s' cs' ts' e' → Kind → Meaning → (ℕ → ℕ) → Told → Type 0
Either h k q m ch t = Asked h q m ch t ⊎ Asked k q m ch t

-- The law. In each clause a book means m, and the points lie in the chapters ch, at the moment of the call.
pub record Law {B C : Type 0} {L : Language B} {M : Language C} {s e : Marker B} {s' e' : Marker C} {cs : List L.Calls} {cs' : List M.Calls} {ts ts' : List Told} (h : History L s cs ts e) (k : History M s' cs' ts' e') : Type 0 where
  -- Judgings, readings and listings are denied exactly where the rules say, with that fault;
  -- a denied call gives no verdict, no reading and no listing, and any other gives one.
  pub judging_denied : (y : Ruling) (m : Meaning) (ch : ℕ → ℕ) (t : Told) → Either h k (to_judge y) m ch t →
      (f : Fault) → (t ≡ denied f) ↔ StrayDenied m y f
  pub judging_given : (y : Ruling) (m : Meaning) (ch : ℕ → ℕ) (t : Told) → Either h k (to_judge y) m ch t →
      NotDenied t ↔ ((v : Verdict) × (t ≡ verdict v))
  pub judging_by_chapter_denied : (y : Ruling) (m : Meaning) (ch : ℕ → ℕ) (t : Told) → Either h k (to_judge_by_chapter y) m ch t →
      (f : Fault) → (t ≡ denied f) ↔ ByChapterDenied m ch y f
  pub judging_by_chapter_given : (y : Ruling) (m : Meaning) (ch : ℕ → ℕ) (t : Told) → Either h k (to_judge_by_chapter y) m ch t →
      NotDenied t ↔ ((v : ChapterVerdict) × (t ≡ chapter_verdict v))
  pub reading_denied : (m : Meaning) (ch : ℕ → ℕ) (t : Told) → Either h k to_read m ch t →
      (f : Fault) → (t ≡ denied f) ↔ UpwardDenied m ch f
  pub reading_given : (m : Meaning) (ch : ℕ → ℕ) (t : Told) → Either h k to_read m ch t →
      NotDenied t ↔ ((sure : Ruling) × (possible : Ruling) × (t ≡ reading sure possible))
  pub listing_denied : (n : ℕ) (m : Meaning) (ch : ℕ → ℕ) (t : Told) → Either h k (to_list n) m ch t →
      (f : Fault) → (t ≡ denied f) ↔ ListingDenied m ch n f
  pub listing_given : (n : ℕ) (m : Meaning) (ch : ℕ → ℕ) (t : Told) → Either h k (to_list n) m ch t →
      NotDenied t ↔ ((rows : List Ruling) × (effort : ℕ) × (t ≡ listing rows effort))
  -- What is listed is the stable rulings of the book read whole, each once, in row order, with the effort beside it;
  -- two listings are equal exactly when their books have the same stable rulings.
  pub listed : (n : ℕ) (m : Meaning) (ch : ℕ → ℕ) (rows : List Ruling) (effort : ℕ) → Either h k (to_list n) m ch (listing rows effort) →
      AllInRowOrder (λ r. Stable m (has r)) rows × Effort m ch effort
  pub listings_equal : (n n' : ℕ) (m m' : Meaning) (ch ch' : ℕ → ℕ) (rows rows' : List Ruling) (effort effort' : ℕ) →
      Either h k (to_list n) m ch (listing rows effort) → Either h k (to_list n') m' ch' (listing rows' effort') →
      (rows ≡ rows') ↔ SameStable m m'
  -- What is read is the well-founded model of the book read whole; two readings are equal exactly when their books have the same.
  pub read : (m : Meaning) (ch : ℕ → ℕ) (sure possible : Ruling) → Either h k to_read m ch (reading sure possible) →
      WellFounded m (has sure) (has possible)
  pub readings_equal : (m m' : Meaning) (ch ch' : ℕ → ℕ) (sure possible sure' possible' : Ruling) →
      Either h k to_read m ch (reading sure possible) → Either h k to_read m' ch' (reading sure' possible') →
      ((sure ≡ sure') × (possible ≡ possible')) ↔ SameModel m m'
  -- A verdict, of the book or by chapter, is stable exactly if the ruling is stable in the book read whole.
  pub judged_stable : (y : Ruling) (m : Meaning) (ch : ℕ → ℕ) (v : Verdict) → Either h k (to_judge y) m ch (verdict v) →
      (v ≡ says.Stable) ↔ Stable m (has y)
  pub judged_stable_by_chapter : (y : Ruling) (m : Meaning) (ch : ℕ → ℕ) (w : ChapterVerdict) → Either h k (to_judge_by_chapter y) m ch (chapter_verdict w) →
      (w.verdict ≡ says.Stable) ↔ Stable m (has y)
  -- So judging whole and judging by chapter agree, in the one run and in the other.
  pub judgings_agree : JudgingsAgree h
  pub other_judgings_agree : JudgingsAgree k

-- two runs, and their law
pub record Compared {B C : Type 0} (L : Language B) (s : Marker B) (cs : List L.Calls) (ts : List Told) (e : Marker B) (M : Language C) (s' : Marker C) (cs' : List M.Calls) (ts' : List Told) (e' : Marker C) : Type 0 where
  pub first : History L s cs ts e
  pub second : History M s' cs' ts' e'
  pub law : Law first second

-- where memory ran out: the same of the calls made so far
abbrev pub ComparedSoFar : {B C : Type 0} (L : Language B) → Marker B → List L.Calls → Marker B → (M : Language C) → Marker C → List M.Calls → Marker C → Type 0
ComparedSoFar L s cs e M s' cs' e' =
    (n : ℕ) × (n' : ℕ) × (ts : List Told) × (ts' : List Told) × (n ≤ length cs) × (n' ≤ length cs')
    × Compared L s (take n cs) ts e M s' (take n' cs') ts' e'

-- the law holds of any two histories
abbrev pub LawOfAllHistories : {B C : Type 0} → Language B → Language C → Type 0
LawOfAllHistories {B} {C} L M =
    (s e : Marker B) (s' e' : Marker C) (cs : List L.Calls) (cs' : List M.Calls) (ts ts' : List Told)
    (h : History L s cs ts e) (k : History M s' cs' ts' e') → Law h k
