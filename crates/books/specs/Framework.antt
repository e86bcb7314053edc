-- The published definitions for argumentation frameworks, over arguments and attacks alone, and the framework of a protest book.
use Rattle.std.specs.Prelude.{◌≡◌, ℕ, Bool, true, false, ◌&&◌, ◌↔◌}
use Rattle.rulings.specs.Points.{Points, Part}
use Rattle.books.specs.declared.protest_book.ProtestBook.{ProtestBook}
use Rattle.books.specs.ProtestBook.{lodged, protesters}

-- a framework: its arguments, and which attacks which
pub record Framework : Type 0 where
  pub argument : Points
  pub attacks : ℕ → ℕ → Bool

-- no argument of E attacks another, or itself
abbrev pub ConflictFree : Framework → Points → Type 0
ConflictFree F E = (a b : ℕ) → E a ≡ true → E b ≡ true → F.attacks a b ≡ false

-- E is a stable extension: a conflict-free set of arguments that attacks every argument outside it
pub record StableExtension (F : Framework) (E : Points) : Type 0 where
  pub arguments : Part E F.argument
  pub conflict_free : ConflictFree F E
  pub attacks_the_rest : (b : ℕ) → F.argument b ≡ true → E b ≡ false → (a : ℕ) × (E a ≡ true) × (F.attacks a b ≡ true)

-- E defends the argument b: every argument that attacks b is attacked by one of E
abbrev pub Defends : Framework → Points → ℕ → Type 0
Defends F E b =
    (F.argument b ≡ true) × ((a : ℕ) → F.attacks a b ≡ true → (c : ℕ) × (E c ≡ true) × (F.attacks c a ≡ true))

-- E is a fixpoint of the characteristic function: it has exactly the arguments that it defends
abbrev pub DefendsItself : Framework → Points → Type 0
DefendsItself F E = (b : ℕ) → (E b ≡ true) ↔ Defends F E b

-- E is the grounded extension: the least fixpoint of the characteristic function
pub record GroundedExtension (F : Framework) (E : Points) : Type 0 where
  pub fixpoint : DefendsItself F E
  pub least : (D : Points) → DefendsItself F D → Part E D

-- the framework of the lodged points of a protest book: a protester that is not lodged is no part of it
abbrev pub framework_of : ProtestBook → Framework
framework_of b = record { argument = lodged b; attacks = λ a c. lodged b a && (lodged b c && protesters b c a) }
