-- Verdicts: a ruling compared with its closure.
use Rattle.std.specs.Prelude.{◌≡◌, ℕ, ◌<◌, true, ◌⊎◌, ◌↔◌, Some, None, Ok, Err, Option, Result, ◌≢◌}
use Rattle.std.specs.Bool.{xor}
use Rattle.rulings.specs.Points.{Points, Lowest}
use Rattle.rulings.specs.Rulings.{has}
use Rattle.rulings.specs.declared.ruling.Ruling.{Ruling}
use Rattle.semantics.specs.Meaning.{Meaning}
use Rattle.semantics.specs.Closure.{IsClosure, Stable as StableIn}
use Rattle.semantics.specs.Chapters.{in_chapter, below_chapter, Fit, chapter, PartStable}
use Rattle.answers.specs.declared.fault.Layer.TheVariants as layer
use Rattle.answers.specs.declared.fault.Fault.{Fault}
use Rattle.answers.specs.Checks.{stray, MarkDenied}
use Rattle.answers.specs.declared.verdict.Verdict.{Verdict}
use Rattle.answers.specs.declared.verdict.ChapterVerdict.{ChapterVerdict}
use Rattle.chapters.specs.Fitting.{UpwardDenied}
use Rattle.answers.specs.declared.verdict.Verdict.TheVariants.{Stable, Unfounded, Missing}

-- the verdict on y beside its closure X: stable if they are equal;
-- else the lowest point on which they differ is unfounded if y has it, and missing if X has it
abbrev pub Compares : Points → Points → Verdict → Type 0
Compares y X Stable = y ≡ X
Compares y X (Unfounded a) = Lowest (λ b. xor (y b) (X b)) (Some a) × (y a ≡ true)
Compares y X (Missing a) = Lowest (λ b. xor (y b) (X b)) (Some a) × (X a ≡ true)

-- every point of the ruling is a point of the book
abbrev pub NoStray : Meaning → Ruling → Type 0
NoStray m r = Lowest (stray m.size (has r)) None

-- denied by the marker for a stray mark, the lowest point of the ruling that the book does not have
abbrev pub StrayDenied : Meaning → Ruling → Fault → Type 0
StrayDenied m r = MarkDenied layer.Marker m.size (has r)

-- Judging a ruling by a book: denied for a stray mark, the lowest point that the book does not have;
-- else the verdict on the ruling beside its closure.
abbrev pub Judged : Meaning → Ruling → Result Verdict Fault → Type 0
Judged m r (Err f) = StrayDenied m r f
Judged m r (Ok v) = NoStray m r × ((X : Points) × IsClosure m (has r) X × Compares (has r) X v)

-- judging whole says stable exactly if there is no stray point and the ruling is stable in the book read whole
abbrev pub SaysStable : Meaning → Ruling → Result Verdict Fault → Type 0
SaysStable m r j = (j ≡ Ok Stable) ↔ (NoStray m r × StableIn m (has r))

-- the verdict on the part of y in chapter k, under the part of y in the lower chapters
abbrev pub PartVerdict : Meaning → (ℕ → ℕ) → Points → ℕ → Verdict → Type 0
PartVerdict m ch y k v =
    (X : Points) × IsClosure (chapter m ch k (below_chapter ch k y) (below_chapter ch k y)) (in_chapter ch k y) X × Compares (in_chapter ch k y) X v

-- the verdict by chapters: of the lowest chapter whose part is not stable; stable where there is none
abbrev pub ByChapter : Meaning → (ℕ → ℕ) → Points → Verdict → Option ℕ → Type 0
ByChapter m ch y v None = (v ≡ Stable) × ((k : ℕ) → k < 16 → PartStable m ch y k)
ByChapter m ch y v (Some k) =
    (k < 16) × ((j : ℕ) → j < k → PartStable m ch y j) × (v ≢ Stable) × PartVerdict m ch y k v

-- Judging a ruling by chapters: denied for a stray mark, then for chapters that do not fit; else the verdict by chapters.
abbrev pub JudgedByChapter : Meaning → (ℕ → ℕ) → Ruling → Result ChapterVerdict Fault → Type 0
JudgedByChapter m ch r (Err f) =
    StrayDenied m r f ⊎ (NoStray m r × UpwardDenied m ch f)
JudgedByChapter m ch r (Ok v) =
    NoStray m r × Fit m ch × ByChapter m ch (has r) v.verdict v.chapter

-- where judging by chapters is not denied, it says stable exactly of the rulings that are stable in the book read whole
abbrev pub AgreesWithWhole : Meaning → Ruling → Result ChapterVerdict Fault → Type 0
AgreesWithWhole m r (Err f) = Unit {0}
AgreesWithWhole m r (Ok v) = (v.verdict ≡ Stable) ↔ StableIn m (has r)

-- and it says stable exactly where judging whole does
abbrev pub AgreesWithJudge : Meaning → Ruling → Result ChapterVerdict Fault → Type 0
AgreesWithJudge m r (Err f) = Unit {0}
AgreesWithJudge m r (Ok v) = (j : Result Verdict Fault) → Judged m r j → (v.verdict ≡ Stable) ↔ (j ≡ Ok Stable)
