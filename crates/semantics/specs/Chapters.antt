-- Chapters: a book read a chapter at a time.
use Rattle.std.specs.Prelude.{◌≡◌, ℕ, ◌<◌, ◌≤◌, true, ◌&&◌, ◌↔◌, ◌==◌, nat_eq, nat_lt}
use Rattle.rulings.specs.Points.{Points, union}
use Rattle.semantics.specs.Meaning.{Meaning, Lawful}
use Rattle.semantics.specs.Closure.{IsClosure, Stable}

-- the points of x in chapter k
abbrev pub in_chapter : (ℕ → ℕ) → ℕ → Points → Points
in_chapter ch k x a = ch a == k && x a

-- the points of x in the chapters lower than k
abbrev pub below_chapter : (ℕ → ℕ) → ℕ → Points → Points
below_chapter ch k x a = nat_lt (ch a) k && x a

-- the chapters fit (a splitting): no point reads a point of a higher chapter
abbrev pub Fit : Meaning → (ℕ → ℕ) → Type 0
Fit m ch = (a b : ℕ) → m.reads a b ≡ true → ch b ≤ ch a

-- there are sixteen chapters
abbrev pub Sixteen : (ℕ → ℕ) → Type 0
Sixteen ch = (a : ℕ) → ch a < 16

-- A book restricted to the points of D, under the rulings U and V of other points, itself the meaning of a book:
-- the points of D derive under (x, y) as in the book under (U and x's part in D, V and y's part there)
-- and read as in the book; other points do neither.
abbrev pub restricted : Meaning → Points → Points → Points → Meaning
restricted m D U V =
    record {
      size = m.size;
      derives = λ x y a. D a && m.derives (union U (λ b. D b && x b)) (union V (λ b. D b && y b)) a;
      reads = λ a b. D a && m.reads a b;
    }

-- chapter k of a book under the rulings U and V of the lower points
abbrev pub chapter : Meaning → (ℕ → ℕ) → ℕ → Points → Points → Meaning
chapter m ch k U V = restricted m (λ a. nat_eq (ch a) k) U V

-- the part of Y in chapter k is stable there, under the part of Y in the lower chapters
abbrev pub PartStable : Meaning → (ℕ → ℕ) → Points → ℕ → Type 0
PartStable m ch Y k = Stable (chapter m ch k (below_chapter ch k Y) (below_chapter ch k Y)) (in_chapter ch k Y)

-- a chapter keeps the laws of a book
abbrev pub ChapterLawful : Type 0
ChapterLawful = (m : Meaning) → Lawful m → (ch : ℕ → ℕ) (k : ℕ) (U V : Points) → Lawful (chapter m ch k U V)

-- decomposition: the part of a closure in a chapter is the closure of the part there, under the lower parts
abbrev pub ClosureSplits : Type 0
ClosureSplits =
    (m : Meaning) (ch : ℕ → ℕ) → Lawful m → Fit m ch → Sixteen ch → (y X : Points) →
    IsClosure m y X ↔ ((k : ℕ) → k < 16 →
    IsClosure (chapter m ch k (below_chapter ch k X) (below_chapter ch k y)) (in_chapter ch k y) (in_chapter ch k X))

-- the splitting theorem for stable rulings: stable in the book read whole exactly if every part is stable in its chapter
abbrev pub StableSplits : Type 0
StableSplits =
    (m : Meaning) (ch : ℕ → ℕ) → Lawful m → Fit m ch → Sixteen ch → (Y : Points) →
    Stable m Y ↔ ((k : ℕ) → k < 16 → PartStable m ch Y k)
