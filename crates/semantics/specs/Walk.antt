-- The walk that finds all stable rulings: every try in order, and the rulings that the tries complete.
use Rattle.std.specs.Prelude.{◌≡◌, ℕ, ◌^◌, ◌<◌, Bool, true, false, cond, not, ◌&&◌, ◌↔◌, List, [], ◌∷◌, length, filter, ◌==◌, ◌≢◌, nat_lt, slice_index_or}
use Rattle.std.specs.List.{ContainsAt, flat_map, range_with_len}
use Rattle.rulings.specs.Points.{Points, Part, union}
use Rattle.rulings.specs.Rulings.{digit}
use Rattle.semantics.specs.Meaning.{Meaning, Lawful}
use Rattle.semantics.specs.Chapters.{in_chapter, below_chapter, Sixteen, PartStable}
use Rattle.semantics.specs.Listing.{count_below, width, Effort}

-- the points of the book in chapter k
unfoldable pub points_of : Meaning → (ℕ → ℕ) → ℕ → Points
points_of m ch k a = ch a == k && nat_lt a m.size

-- the c-th subset of D: a point of D is in it if the binary digit of c at the number of points of D below it is 1
unfoldable pub spread : Points → ℕ → Points
spread D c a = D a && digit c (count_below a D)

-- the set of no points
abbrev pub none : Points
none a = false

-- chapter k holds a point of the book
abbrev pub holds : Meaning → (ℕ → ℕ) → ℕ → Bool
holds m ch k = not (width m ch k == 0)

-- the levels of the walk: the chapters that hold a point, lowest first
unfoldable pub levels : Meaning → (ℕ → ℕ) → List ℕ
levels m ch = filter (holds m ch) (range_with_len 0 16)

-- a test of a part of chapter k over the lower points: whether it is stable there
abbrev pub Test : Type 0
Test = ℕ → Points → Points → Bool

-- the test tells, of the sets of points of the book, which parts are stable
abbrev pub Tells : Meaning → (ℕ → ℕ) → Test → Type 0
Tells m ch test =
    (k : ℕ) (Y : Points) → ((a : ℕ) → Y a ≡ true → a < m.size) →
    (test k (below_chapter ch k Y) (in_chapter ch k Y) ≡ true) ↔ PartStable m ch Y k

-- One try: a candidate for the part in a chapter, over the part picked at the lower levels.
-- A candidate that is stable there, at the last level, completes a ruling.
pub record Try : Type 0 where
  pub chapter : ℕ
  pub candidate : ℕ
  pub lower : Points
  pub stable : Bool
  pub completes : Bool

-- the lower part and the candidate together
abbrev pub with_candidate : Meaning → (ℕ → ℕ) → ℕ → Points → ℕ → Points
with_candidate m ch k U c = union U (spread (points_of m ch k) c)

-- no level is left
abbrev pub last : List ℕ → Bool
last [] = true
last (k ∷ ks) = false

-- candidate c of chapter k is stable over U
abbrev pub passes : Meaning → (ℕ → ℕ) → Test → ℕ → Points → ℕ → Bool
passes m ch test k U c = test k U (spread (points_of m ch k) c)

-- the try of candidate c at level k, with the levels ks above it
abbrev pub try_of : Meaning → (ℕ → ℕ) → Test → ℕ → List ℕ → Points → ℕ → Try
try_of m ch test k ks U c =
    record {
      chapter = k;
      candidate = c;
      lower = U;
      stable = passes m ch test k U c;
      completes = passes m ch test k U c && last ks;
    }

-- The tries at some levels over the part U picked below them: each candidate of the first level is tried,
-- and if it is stable, all tries above it come before the next candidate.
unfoldable pub tries : Meaning → (ℕ → ℕ) → Test → List ℕ → Points → List Try
tries m ch test [] U = []
tries m ch test (k ∷ ks) U =
    flat_map (λ c. try_of m ch test k ks U c ∷ cond (passes m ch test k U c) (tries m ch test ks (with_candidate m ch k U c)) [])
    (range_with_len 0 (2 ^ width m ch k))

-- the whole walk
abbrev pub walk : Meaning → (ℕ → ℕ) → Test → List Try
walk m ch test = tries m ch test (levels m ch) none

-- the rulings that some tries complete, in their order
unfoldable pub completed : Meaning → (ℕ → ℕ) → List Try → List Points
completed m ch [] = []
completed m ch (t ∷ ts) =
    cond t.completes (with_candidate m ch t.chapter t.lower t.candidate ∷ completed m ch ts) (completed m ch ts)

-- the subsets of a set of points below n are numbered from 0 to 2 ^ (how many there are) - 1
abbrev pub SubsetsNumbered : Type 0
SubsetsNumbered =
    (n : ℕ) (D : Points) → ((a : ℕ) → D a ≡ true → a < n) →
    ((x : Points) → Part x D → (c : ℕ) × (c < 2 ^ count_below n D) × (spread D c ≡ x)) ×
    ((c d : ℕ) → c < 2 ^ count_below n D → d < 2 ^ count_below n D → spread D c ≡ spread D d → c ≡ d)

-- every lawful book has such a test
abbrev pub TestExists : Type 0
TestExists = (m : Meaning) → Lawful m → (ch : ℕ → ℕ) → (test : Test) × Tells m ch test

-- the list is all sets with a property, each once
pub record AllOnce (Q : Points → Type 0) (xs : List Points) : Type 0 where
  pub only : (x : Points) → ContainsAt xs x → Q x
  pub each : (x : Points) → Q x → ContainsAt xs x
  pub once : (i j : ℕ) (d : Points) → i < j → j < length xs → slice_index_or xs i d ≢ slice_index_or xs j d

-- the walk completes all sets whose every part is stable in its chapter, each once
abbrev pub WalkCompletes : Type 0
WalkCompletes =
    (m : Meaning) (ch : ℕ → ℕ) (test : Test) → Lawful m → Sixteen ch → Tells m ch test →
    AllOnce (λ x. (k : ℕ) → k < 16 → PartStable m ch x k) (completed m ch (walk m ch test))

-- the number of its tries is the effort
abbrev pub WalkEffort : Type 0
WalkEffort =
    (m : Meaning) (ch : ℕ → ℕ) (test : Test) → Lawful m → Tells m ch test → Effort m ch (length (walk m ch test))

-- which is one number
abbrev pub EffortUnique : Type 0
EffortUnique = (m : Meaning) (ch : ℕ → ℕ) (e e' : ℕ) → Effort m ch e → Effort m ch e' → e ≡ e'
