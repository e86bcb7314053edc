-- What a marker sees of a book, and the laws that every book keeps.
use Rattle.std.specs.Prelude.{◌≡◌, ℕ, ◌<◌, ◌≤◌, Bool, true}
use Rattle.rulings.specs.Points.{Points, Part}

-- The meaning of a book: its answers to the three questions.
-- A book is seen by its operator alone: `derives x y a` asks whether point a follows in one step
-- where the positive conditions are looked up in x and the negative ones in y.
pub record Meaning : Type 0 where
  pub size : ℕ
  pub derives : Points → Points → ℕ → Bool
  pub reads : ℕ → ℕ → Bool

-- the two pairs of sets agree on the points that a reads
abbrev pub AgreeOnRead : Meaning → ℕ → Points → Points → Points → Points → Type 0
AgreeOnRead m a x y x' y' = (b : ℕ) → m.reads a b ≡ true → (x b ≡ x' b) × (y b ≡ y' b)

-- The laws of every book.
pub record Lawful (m : Meaning) : Type 0 where
  -- the size is from 1 to 128
  pub some_point : 1 ≤ m.size
  pub few_points : m.size ≤ 128
  -- more (monotone in the first set)
  pub more : (x x' y : Points) (a : ℕ) → Part x x' → m.derives x y a ≡ true → m.derives x' y a ≡ true
  -- fewer (antitone in the second set)
  pub fewer : (x y y' : Points) (a : ℕ) → Part y' y → m.derives x y a ≡ true → m.derives x y' a ≡ true
  -- local: only the points that are read matter
  pub local : (x y x' y' : Points) (a : ℕ) → AgreeOnRead m a x y x' y' → m.derives x y a ≡ m.derives x' y' a
  -- a number of size or above derives under no pair, reads nothing and is read by nothing
  pub derives_inside : (x y : Points) (a : ℕ) → m.derives x y a ≡ true → a < m.size
  pub reads_inside : (a b : ℕ) → m.reads a b ≡ true → (a < m.size) × (b < m.size)
