-- The example book as it is written, and what opening a marker with it does.
use Rattle.std.specs.Prelude.{◌≡◌, ℕ, List, [], ◌∷◌, Ok, Err, MatchResult}
use Rattle.std.specs.List.{AllZip}
use Rattle.rulings.specs.declared.ruling.Ruling.{Ruling}
use Rattle.books.specs.declared.entry.Entry.{Entry}
use Rattle.books.specs.declared.rule_book.RuleBook.{RuleBook}
use Rattle.books.specs.Promise.{Outcome}
use Rattle.books.specs.Lines.{Line, line, Says}
use Rattle.books.specs.RuleBook.{entries, Opened, Entered}
use Rattle.marker.specs.declared.marker.Marker.{Marker}
use Rattle.marker.specs.State.{book_of, chapters_of, placing, ChaptersOpened}

-- 0 if not 1; 1 if not 0; 2 if 0; 3 if 2 and not 1
abbrev pub example_lines : List Line
example_lines = line 0 [] (1 ∷ []) ∷ line 1 [] (0 ∷ []) ∷ line 2 (0 ∷ []) [] ∷ line 3 (2 ∷ []) (1 ∷ []) ∷ []

-- the entries are entered in a book, one after another, until one is denied
abbrev pub EntersEach : {B : Type 0} → (B → ℕ → Ruling → Ruling → Outcome → B → Type 0) → List Entry → B → Outcome → B → Type 0
EntersEach entered [] b r b' = (r ≡ Ok tt) × (b' ≡ b)
EntersEach {B} entered (x ∷ xs) b r b' =
    (one : Outcome) × (mid : B) × entered b x.point x.supporters x.strikers one mid
    × MatchResult one (λ _. EntersEach entered xs mid r b') (λ f. (r ≡ Err f) × (b' ≡ mid))

-- a book is opened with four points, and the example's entries are entered in it, until one of these calls is denied;
-- once it is opened, every point is in chapter 0
abbrev pub OpensExample : {B : Type 0} → (B → ℕ → Outcome → B → Type 0) → (B → ℕ → Ruling → Ruling → Outcome → B → Type 0) → Marker B → Outcome → Marker B → Type 0
OpensExample {B} opened entered m r m' =
    (one : Outcome) × (mid : B) × opened (book_of m) 4 one mid × ChaptersOpened one (chapters_of m) (chapters_of m')
    × MatchResult one
    (λ _. (es : List Entry) × AllZip Says es example_lines × EntersEach entered es mid r (book_of m'))
    (λ f. (r ≡ Err f) × (book_of m' ≡ mid))

-- the marker holds the example book: four points, just the example's entries, oldest first, and every point in chapter 0
pub record HoldsExample (m : Marker RuleBook) : Type 0 where
  pub sized : (book_of m).size ≡ 4
  pub written : AllZip Says (entries (book_of m)) example_lines
  pub placed : (a : ℕ) → placing m a ≡ 0

-- whatever marker over a rule book is opened with the example book, that is done, and it then holds the example book
abbrev pub ExampleIsOpened : Type 0
ExampleIsOpened = (m : Marker RuleBook) (r : Outcome) (m' : Marker RuleBook) → OpensExample Opened Entered m r m' → (r ≡ Ok tt) × HoldsExample m'
