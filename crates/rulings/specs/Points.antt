-- Sets of points, and the lowest point of a set.
use Rattle.std.specs.Prelude.{◌≡◌, ℕ, ◌<◌, Bool, true, false, ◌||◌, List, [], ◌∷◌, Some, None, Option, ◌==◌}

-- a set of points (ground atoms), by its membership test
abbrev pub Points : Type 0
Points = ℕ → Bool

-- the set of the points in a list
abbrev pub listed : List ℕ → Points
listed [] a = false
listed (b ∷ bs) a = a == b || listed bs a

-- x is a subset of y
abbrev pub Part : Points → Points → Type 0
Part x y = (a : ℕ) → x a ≡ true → y a ≡ true

-- no point is in both
abbrev pub Disjoint : Points → Points → Type 0
Disjoint x y = (a : ℕ) → x a ≡ true → y a ≡ false

-- the union of two sets
abbrev pub union : Points → Points → Points
union x y a = x a || y a

-- `found` is the lowest point of the set, and nothing where the set is empty
abbrev pub Lowest : Points → Option ℕ → Type 0
Lowest x None = (a : ℕ) → x a ≡ false
Lowest x (Some a) = (x a ≡ true) × ((b : ℕ) → b < a → x b ≡ false)
