-- The well-founded model, and the reading of a book chapter by chapter.
use Rattle.std.specs.Prelude.{◌≡◌, ℕ, ◌<◌, ◌↔◌}
use Rattle.rulings.specs.Points.{Points, Part}
use Rattle.semantics.specs.Meaning.{Meaning, Lawful}
use Rattle.semantics.specs.Closure.{IsClosure}
use Rattle.semantics.specs.Chapters.{in_chapter, below_chapter, Fit, Sixteen, chapter}

-- S is the closure of P by the one meaning, and P the closure of S by the other
pub record Alternates (m w : Meaning) (S P : Points) : Type 0 where
  pub sure : IsClosure m P S
  pub possible : IsClosure w S P

-- of all such pairs, S is the smallest and P the largest
pub record LeastPair (m w : Meaning) (S P : Points) : Type 0 where
  pub alternates : Alternates m w S P
  pub extreme : (S' P' : Points) → Alternates m w S' P' → Part S S' × Part P' P

-- (S, P) is the well-founded model: what is sure, and what is possible
abbrev pub WellFounded : Meaning → Points → Points → Type 0
WellFounded m S P = LeastPair m m S P

-- the pair that chapter k adds to the reading (S, P) of the lower chapters: an undecided lower point counts
-- as not sure where the sure points are worked out, and as possible where the possible points are
abbrev pub PartRead : Meaning → (ℕ → ℕ) → Points → Points → ℕ → Type 0
PartRead m ch S P k =
    LeastPair (chapter m ch k (below_chapter ch k S) (below_chapter ch k P)) (chapter m ch k (below_chapter ch k P) (below_chapter ch k S))
    (in_chapter ch k S) (in_chapter ch k P)

-- every lawful book has a well-founded model
abbrev pub WellFoundedExists : Type 0
WellFoundedExists = (m : Meaning) → Lawful m → (S : Points) × (P : Points) × WellFounded m S P

-- and only one
abbrev pub WellFoundedUnique : Type 0
WellFoundedUnique =
    (m : Meaning) (S P S' P' : Points) → WellFounded m S P → WellFounded m S' P' → (S ≡ S') × (P ≡ P')

-- what is sure is possible
abbrev pub SureIsPossible : Type 0
SureIsPossible = (m : Meaning) → Lawful m → (S P : Points) → WellFounded m S P → Part S P

-- the splitting theorem for readings: the upward reading is the well-founded model of the book read whole
abbrev pub WellFoundedSplits : Type 0
WellFoundedSplits =
    (m : Meaning) (ch : ℕ → ℕ) → Lawful m → Fit m ch → Sixteen ch → (S P : Points) →
    WellFounded m S P ↔ ((k : ℕ) → k < 16 → PartRead m ch S P k)
