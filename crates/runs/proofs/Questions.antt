-- The four questions: each is denied for one reason, or given an answer that excludes every reason.
use Rattle.std.proofs.Common.{◌≡◌, ℕ, ◌≤◌, ◌⊎◌, ◌↔◌, List, length, take, Ok, Err, Result, sym, ap, ◌∙◌, subst, inl, inr, arith}
use Rattle.std.proofs.lemmas.List.{length-take}
use Rattle.rulings.specs.Rulings.{has}
use Rattle.rulings.specs.declared.ruling.Ruling.{Ruling}
use Rattle.semantics.specs.Meaning.{Meaning, Lawful}
use Rattle.semantics.specs.Chapters.{Fit, Sixteen}
use Rattle.semantics.specs.Closure.{Stable}
use Rattle.semantics.specs.Listing.{AllInRowOrder, Effort, AllPartsStable}
use Rattle.semantics.specs.WellFounded.{WellFounded}
use Rattle.answers.specs.declared.fault.Fault.{Fault}
use Rattle.books.specs.Promise.{Outcome}
use Rattle.answers.specs.declared.listing.Listing.{Listing as Counts}
use Rattle.marker.specs.declared.marker.Marker.{Marker}
use Rattle.answers.specs.declared.verdict.Verdict.{Verdict}
use Rattle.answers.specs.declared.verdict.Verdict.TheVariants as says
use Rattle.answers.specs.declared.verdict.ChapterVerdict.{ChapterVerdict}
use Rattle.chapters.specs.Fitting.{UpwardDenied}
use Rattle.marker.specs.Judging.{NoStray, StrayDenied, Judged, JudgedByChapter}
use Rattle.marker.specs.Listing.{NoneWide, TriedInVain, Listed}
use Rattle.marker.specs.Reading.{ReadInto}
use Rattle.marker.specs.State.{placing}
use Rattle.marker.proofs.Verdicts.{stable_verdict, by_chapter_agrees}
use Rattle.runs.specs.Law.{ByChapterDenied, ListingDenied, NotDenied}
use Rattle.runs.specs.Step.{Kind, to_judge, to_judge_by_chapter, to_read, to_list, to_change, to_keep, means}
use Rattle.runs.specs.Told.{Told, verdict, chapter_verdict, reading, listing, denied, judgement_told, chapter_judgement_told, reading_told, listing_told}
use Rattle.runs.proofs.CallKinds.{StepOf}
use Rattle.chapters.proofs.Upward.{upward_once, fitting}
use Rattle.runs.proofs.Denials.{stray_once, not_stray, by_chapter_once, not_by_chapter, listing_once, not_listing}
use Rattle.runs.proofs.Listings.{whole_listing}

module _ {X : Type 0} (tell : X → Told) (Denying : Fault → Type 0) (Giving : X → Type 0) where
  -- what is told of a question: a denial and its reason, or an answer and what it says
  abbrev pub Answered : Told → Type 0
  Answered t = ((f : Fault) × (t ≡ denied f) × Denying f) ⊎ ((x : X) × (t ≡ tell x) × Giving x)

  -- there is one reason at most, an answer excludes it, and an answer is known by what it tells
  pub record Question : Type 0 where
    pub once : (f f' : Fault) → Denying f → Denying f' → f ≡ f'
    pub excluded : (x : X) (f : Fault) → Giving x → Denying f → ⊥
    pub apart : (x : X) (f : Fault) → tell x ≡ denied f → ⊥
    pub known : (x x' : X) → tell x ≡ tell x' → x ≡ x'

module _ {X : Type 0} {tell : X → Told} {Denying : Fault → Type 0} {Giving : X → Type 0} (q : Question tell Denying Giving) where
  pub denied_exactly : (t : Told) → Answered tell Denying Giving t → (f : Fault) → (t ≡ denied f) ↔ Denying f
  denied_exactly t (inl (f', e, d)) f =
      (λ e'. subst Denying (let same : f' ≡ f = cc in same) d, λ d'. e ∙ ap denied (q.once f' f d d'))
  denied_exactly t (inr (x, e, g)) f =
      (λ e'. absurd (q.apart x f (sym e ∙ e')), λ d'. absurd (q.excluded x f g d'))

  pub given_otherwise : (t : Told) → Answered tell Denying Giving t → NotDenied t → (x : X) × (t ≡ tell x)
  given_otherwise t (inl (f, e, d)) none = absurd (none f e)
  given_otherwise t (inr (x, e, g)) none = (x, e)

  pub given_is_not_denied : (t : Told) (x : X) → t ≡ tell x → NotDenied t
  given_is_not_denied t x e f e' = q.apart x f (sym e ∙ e')

  pub given : (x : X) → Answered tell Denying Giving (tell x) → Giving x
  given x (inl (f, e, d)) = absurd (q.apart x f e)
  given x (inr (x', e, g)) = subst Giving (sym (q.known x x' e)) g

-- what is known where an answer is given
pub record JudgementGiven (m : Meaning) (y : Ruling) (v : Verdict) : Type 0 where
  pub inside : NoStray m y
  pub stable : (v ≡ says.Stable) ↔ Stable m (has y)

pub record ChapterJudgementGiven (m : Meaning) (ch : ℕ → ℕ) (y : Ruling) (v : ChapterVerdict) : Type 0 where
  pub inside : NoStray m y
  pub fits : Fit m ch
  pub stable : (v.verdict ≡ says.Stable) ↔ Stable m (has y)

pub record ReadingGiven (m : Meaning) (ch : ℕ → ℕ) (x : Ruling × Ruling) : Type 0 where
  pub fits : Fit m ch
  pub model : WellFounded m (has x.0) (has x.1)

pub record ListingGiven (m : Meaning) (ch : ℕ → ℕ) (n : ℕ) (x : List Ruling × ℕ) : Type 0 where
  pub fits : Fit m ch
  pub narrow : NoneWide m ch
  pub effort : Effort m ch x.1
  pub within : x.1 ≤ 65536
  pub room : length x.0 ≤ n
  pub by_chapters : AllInRowOrder (AllPartsStable m ch) x.0
  pub whole : AllInRowOrder (λ r. Stable m (has r)) x.0

-- readings and listings as one value
abbrev pub reading_of : Ruling × Ruling → Told
reading_of x = reading x.0 x.1

abbrev pub listing_of : List Ruling × ℕ → Told
listing_of x = listing x.0 x.1

-- the four questions
pub judging : (m : Meaning) (y : Ruling) → Question verdict (StrayDenied m y) (JudgementGiven m y)
judging m y =
    record {
      once = stray_once m y;
      excluded = λ v f g d. not_stray m y f g.inside d;
      apart = λ v f e. cc;
      known = λ v v' e. cc;
    }

pub judging_by_chapter : (m : Meaning) (ch : ℕ → ℕ) (y : Ruling) → Question chapter_verdict (ByChapterDenied m ch y) (ChapterJudgementGiven m ch y)
judging_by_chapter m ch y =
    record {
      once = by_chapter_once m ch y;
      excluded = λ v f g d. not_by_chapter m ch y f g.inside g.fits d;
      apart = λ v f e. cc;
      known = λ v v' e. cc;
    }

pub reading_whole : (m : Meaning) (ch : ℕ → ℕ) → Question reading_of (UpwardDenied m ch) (ReadingGiven m ch)
reading_whole m ch =
    record {
      once = upward_once m ch;
      excluded = λ x f g d. fitting m ch f g.fits d;
      apart = λ x f e. cc;
      known = λ x x' e. let s : x.0 ≡ x'.0 = cc in let p : x.1 ≡ x'.1 = cc in λ i. (s i, p i);
    }

pub listing_all : (m : Meaning) (ch : ℕ → ℕ) (n : ℕ) → Question listing_of (ListingDenied m ch n) (ListingGiven m ch n)
listing_all m ch n =
    record {
      once = listing_once m ch n;
      excluded = λ x f g d. not_listing m ch n f x.0 x.1 g.fits g.narrow g.effort g.within g.room g.by_chapters d;
      apart = λ x f e. cc;
      known = λ x x' e. let r : x.0 ≡ x'.0 = cc in let n : x.1 ≡ x'.1 = cc in λ i. (r i, n i);
    }

-- what is owed where a question was put
abbrev pub Owes : Kind → Meaning → (ℕ → ℕ) → Told → Type 0
Owes (to_judge y) m ch t = Answered verdict (StrayDenied m y) (JudgementGiven m y) t
Owes (to_judge_by_chapter y) m ch t = Answered chapter_verdict (ByChapterDenied m ch y) (ChapterJudgementGiven m ch y) t
Owes to_read m ch t = Answered reading_of (UpwardDenied m ch) (ReadingGiven m ch) t
Owes (to_list n) m ch t = Answered listing_of (ListingDenied m ch n) (ListingGiven m ch n) t
Owes to_change m ch t = Unit {0}
Owes to_keep m ch t = Unit {0}

module _ (m : Meaning) (ch : ℕ → ℕ) (lawful : Lawful m) (few : Sixteen ch) (t : Told) where
  judged : (y : Ruling) (r : Result Verdict Fault) → t ≡ judgement_told r → Judged m y r → Owes (to_judge y) m ch t
  judged y (Err f) e d = inl (f, e, d)
  judged y (Ok v) e (none, (X, closure, compared)) =
      inr (v, e, record { inside = none; stable = stable_verdict m (has y) X v closure compared })

  judged_by_chapter : (y : Ruling) (r : Result ChapterVerdict Fault) → t ≡ chapter_judgement_told r → JudgedByChapter m ch y r → Owes (to_judge_by_chapter y) m ch t
  judged_by_chapter y (Err f) e d = inl (f, e, d)
  judged_by_chapter y (Ok v) e (none, fit, by) =
      inr (v, e, record { inside = none; fits = fit; stable = by_chapter_agrees m ch (has y) lawful fit few v.verdict v.chapter by })

  was_read : (r : Outcome) (found_sure found_possible sure possible : Ruling) → t ≡ reading_told r sure possible →
      ReadInto m ch r found_sure found_possible sure possible → Owes to_read m ch t
  was_read (Err f) fs fp s p e (d, _, _) = inl (f, e, d)
  was_read (Ok _) fs fp s p e (fit, model, _) = inr ((s, p), e, record { fits = fit; model = model })

  listed : (n : ℕ) (r : Result Counts Fault) (found left : List Ruling) → length found ≡ n → t ≡ listing_told r left →
      Listed m ch found r left → Owes (to_list n) m ch t
  listed n (Err f) found left long e (inl d) = inl (f, e, inl d.0)
  listed n (Err f) found left long e (inr d) = inl (f, e, inr (subst (λ (k : ℕ). TriedInVain m ch k f) long d.0))
  listed n (Ok l) found left long e (fit, none, effort, within, room, all, rest) =
      inr (
        (take l.rows left, l.effort),
        e,
        record {
          fits = fit;
          narrow = none;
          effort = effort;
          within = within;
          room = omega (arith, length-take l.rows left);
          by_chapters = all;
          whole = whole_listing m ch (take l.rows left) lawful fit few all;
        },
      )

-- a step of a question's kind gives what is owed
pub owes : {B : Type 0} (f : B → Meaning) (q : Kind) (s : Marker B) (t : Told) (s' : Marker B) → Lawful (means f s) → StepOf f q s t s' → Owes q (means f s) (placing s) t
owes f (to_judge y) s t s' lawful (r, e, d, _) = judged (means f s) (placing s) lawful s.sixteen t y r e d
owes f (to_judge_by_chapter y) s t s' lawful (r, e, d, _) = judged_by_chapter (means f s) (placing s) lawful s.sixteen t y r e d
owes f to_read s t s' lawful (r, fs, fp, sure, possible, e, d, _) = was_read (means f s) (placing s) lawful s.sixteen t r fs fp sure possible e d
owes f (to_list n) s t s' lawful (r, found, left, long, e, d, _) = listed (means f s) (placing s) lawful s.sixteen t n r found left long e d
owes f to_change s t s' lawful d = tt
owes f to_keep s t s' lawful d = tt
