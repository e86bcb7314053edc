-- A chapter of a book whose meaning is a program is the program's partial evaluation; and of a rule book, the entries evaluated.
use Rattle.std.specs.Prelude.{◌≡◌, ℕ, Bool, true, ◌&&◌, ◌↔◌, List, filter, ◌==◌}
use Rattle.std.specs.List.{AllZip}
use Rattle.rulings.specs.Points.{Points}
use Rattle.rulings.specs.Rulings.{has}
use Rattle.semantics.specs.Meaning.{Meaning}
use Rattle.semantics.specs.Closure.{Stable}
use Rattle.semantics.specs.Chapters.{Fit, in_chapter, below_chapter, chapter, PartStable}
use Rattle.books.specs.declared.entry.Entry.{Entry}
use Rattle.books.specs.declared.rule_book.RuleBook.{RuleBook}
use Rattle.books.specs.Entries.{covers, avoids, by_entries}
use Rattle.books.specs.RuleBook.{entries, meaning_of}
use Rattle.books.specs.Program.{Program, StableModel, evaluated, Derives}

-- under chapters that fit, the chapter under the lower points of U and V derives as the evaluated program does,
-- and has the same stable sets
pub record EvaluatesTo (m : Meaning) (P : Program) : Type 0 where
  pub derives : (ch : ℕ → ℕ) → Fit m ch → (k : ℕ) (U V x y : Points) (a : ℕ) →
      ((chapter m ch k (below_chapter ch k U) (below_chapter ch k V)).derives x y a ≡ true) ↔ Derives (evaluated ch k U V P) x y a
  pub stable : (ch : ℕ → ℕ) → Fit m ch → (k : ℕ) (U V Z : Points) →
      Stable (chapter m ch k (below_chapter ch k U) (below_chapter ch k V)) Z ↔ StableModel (evaluated ch k U V P) Z
  -- so a part of Y is stable in its chapter exactly if it is a stable model of the program evaluated by Y
  pub parts : (ch : ℕ → ℕ) → Fit m ch → (k : ℕ) (Y : Points) →
      PartStable m ch Y k ↔ StableModel (evaluated ch k Y Y P) (in_chapter ch k Y)

-- chapter k keeps the entry: it is for a point of the chapter, its lower supporters are all in U, and none of its
-- lower strikers is in V
abbrev pub keeps : (ℕ → ℕ) → ℕ → Points → Points → Entry → Bool
keeps ch k U V e =
    ch e.point == k && (covers U (below_chapter ch k (has e.supporters)) && avoids V (below_chapter ch k (has e.strikers)))

-- e', which is an entry too, is the entry e cut to its points in chapter k
pub record Cut (ch : ℕ → ℕ) (k : ℕ) (e e' : Entry) : Type 0 where
  pub point : e'.point ≡ e.point
  pub supporters : has e'.supporters ≡ in_chapter ch k (has e.supporters)
  pub strikers : has e'.strikers ≡ in_chapter ch k (has e.strikers)

-- es' are the entries es evaluated: those that chapter k keeps, in their order, each cut to its points in the chapter
abbrev pub EntriesEvaluated : (ℕ → ℕ) → ℕ → Points → Points → List Entry → List Entry → Type 0
EntriesEvaluated ch k U V es es' = AllZip (Cut ch k) (filter (keeps ch k U V) es) es'

-- The entries of each chapter of a rule book, evaluated by (U, V), are entries: a rule book of the same size has them.
-- Under chapters that fit they derive, in a book of any size, as the chapter under the lower points of U and V does.
pub record EvaluatesToEntries (b : RuleBook) : Type 0 where
  pub as_book : (ch : ℕ → ℕ) (k : ℕ) (U V : Points) →
      (b' : RuleBook) × (b'.size ≡ b.size) × EntriesEvaluated ch k U V (entries b) (entries b')
  pub derives : (ch : ℕ → ℕ) → Fit (meaning_of b) ch → (k : ℕ) (U V : Points) (n : ℕ) (es' : List Entry) →
      EntriesEvaluated ch k U V (entries b) es' → (x y : Points) (a : ℕ) →
      (by_entries n es').derives x y a ≡ (chapter (meaning_of b) ch k (below_chapter ch k U) (below_chapter ch k V)).derives x y a
