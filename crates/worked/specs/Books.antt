-- Books written down: rules by lists of points, protests by pairs, chapters by a list; and new markers.
use Rattle.std.specs.Prelude.{◌≡◌, ℕ, ◌-◌, ◌<◌, ◌≤◌, true, false, ◌&&◌, List, [], ◌++◌, length, replicate, ◌==◌, slice_index}
use Rattle.std.specs.List.{All, AllZip, list_any}
use Rattle.rulings.specs.Points.{Points, listed}
use Rattle.rulings.specs.Rulings.{has}
use Rattle.semantics.specs.Meaning.{Meaning}
use Rattle.books.specs.declared.entry.Entry.{Entry}
use Rattle.books.specs.declared.rule_book.RuleBook.{RuleBook}
use Rattle.books.specs.declared.protest_book.ProtestBook.{ProtestBook}
use Rattle.books.specs.RuleBook.{entries, meaning_of}
use Rattle.books.specs.Lines.{Line}
use Rattle.books.specs.ProtestBook.{lodged, protesters, protest_meaning}
use Rattle.chapters.specs.declared.chapters.Chapters.{Chapters}
use Rattle.chapters.specs.Table.{chapter_of, AllInChapter0}
use Rattle.marker.specs.declared.marker.Marker.{Marker}
use Rattle.marker.specs.State.{book_of, chapters_of}

-- the entry is the line, point for point
pub record Is (e : Entry) (l : Line) : Type 0 where
  pub point : e.point ≡ l.point
  pub supporters : has e.supporters ≡ listed l.supporters
  pub strikers : has e.strikers ≡ listed l.strikers

-- the rule book of size n with these lines
pub record Rules (n : ℕ) (lines : List Line) (b : RuleBook) : Type 0 where
  pub sized : b.size ≡ n
  pub written : AllZip Is (entries b) lines

-- the line names only points below n
pub record Inside (n : ℕ) (l : Line) : Type 0 where
  pub point : l.point < n
  pub supporters : (a : ℕ) → listed l.supporters a ≡ true → a < n
  pub strikers : (a : ℕ) → listed l.strikers a ≡ true → a < n

-- the lines of a rule book name only points of the book; so a line with point 200 is in none
abbrev pub LinesInside : Type 0
LinesInside = (n : ℕ) (lines : List Line) (b : RuleBook) → Rules n lines b → All (Inside n) lines

-- (c, a) is among the pairs: c protests a
abbrev pub protested : List (ℕ × ℕ) → ℕ → Points
protested pairs a c = list_any (λ p. c == p.0 && a == p.1) pairs

-- the protest book of size n in which these points are lodged, with these protests
pub record Protests (n : ℕ) (points : List ℕ) (pairs : List (ℕ × ℕ)) (b : ProtestBook) : Type 0 where
  pub sized : b.size ≡ n
  pub lodging : lodged b ≡ listed points
  pub protests : (a c : ℕ) → protesters b a c ≡ protested pairs a c

-- a marker that is new over a new rule book: one point, no entry, and every point in chapter 0
pub record NewOverRules (m : Marker RuleBook) : Type 0 where
  pub sized : (book_of m).size ≡ 1
  pub empty : entries (book_of m) ≡ []
  pub placed : AllInChapter0 (chapters_of m)

-- a marker that is new over a new protest book: one point, nothing lodged, no protest, and every point in chapter 0
pub record NewOverProtests (m : Marker ProtestBook) : Type 0 where
  pub sized : (book_of m).size ≡ 1
  pub lodging : (a : ℕ) → lodged (book_of m) a ≡ false
  pub protests : (a c : ℕ) → protesters (book_of m) a c ≡ false
  pub placed : AllInChapter0 (chapters_of m)

-- something is `Such`, and whatever is `Such` is `So`
pub record OfEach {X : Type 0} (Such So : X → Type 0) : Type 0 where
  pub some : (x : X) × Such x
  pub each : (x : X) → Such x → So x

-- so it is of what the rule books of size n with these lines mean
abbrev pub OfRules : ℕ → List Line → (Meaning → Type 0) → Type 0
OfRules n lines So = OfEach (Rules n lines) (λ b. So (meaning_of b))

-- so it is of what the protest books of size n with these points lodged and these protests mean
abbrev pub OfProtests : ℕ → List ℕ → List (ℕ × ℕ) → (Meaning → Type 0) → Type 0
OfProtests n points pairs So = OfEach (Protests n points pairs) (λ b. So (protest_meaning b))

-- the chapters of points 0, 1, 2 and so on; chapter 0 for those past the list
abbrev pub chapters : List ℕ → ℕ → ℕ
chapters ks a = slice_index ks a

-- a table of chapters that begins with the list and goes on with zeros places the points so
abbrev pub TablesPlace : Type 0
TablesPlace =
    (c : Chapters) (ks : List ℕ) → length ks ≤ 128 → c.numbers ≡ ks ++ replicate (128 - length ks) 0 → chapter_of c ≡ chapters ks
