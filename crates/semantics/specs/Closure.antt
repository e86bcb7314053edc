-- Closures and stable rulings.
use Rattle.std.specs.Prelude.{◌≡◌}
use Rattle.rulings.specs.Points.{Points, Part}
use Rattle.semantics.specs.Meaning.{Meaning, Lawful}

-- every point that derives under (X, y) is in X
abbrev pub Closed : Meaning → Points → Points → Type 0
Closed m y X = Part (m.derives X y) X

-- X is the closure of y: the smallest set that is closed under y (the least model of the reduct by y)
pub record IsClosure (m : Meaning) (y X : Points) : Type 0 where
  pub closed : Closed m y X
  pub least : (Z : Points) → Closed m y Z → Part X Z

-- a set is stable if it is its own closure (a stable model)
abbrev pub Stable : Meaning → Points → Type 0
Stable m Y = IsClosure m Y Y

-- every set has a closure
abbrev pub ClosureExists : Type 0
ClosureExists = (m : Meaning) → Lawful m → (y : Points) → (X : Points) × IsClosure m y X

-- and only one
abbrev pub ClosureUnique : Type 0
ClosureUnique = (m : Meaning) (y X Z : Points) → IsClosure m y X → IsClosure m y Z → X ≡ Z

-- the closure shrinks as y grows
abbrev pub ClosureShrinks : Type 0
ClosureShrinks =
    (m : Meaning) → Lawful m → (y z X Z : Points) → Part y z → IsClosure m y X → IsClosure m z Z → Part Z X
