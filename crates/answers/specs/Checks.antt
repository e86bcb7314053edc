-- What a book and the marker both check of what they are handed: that the points are points of the book.
use Rattle.std.specs.Prelude.{◌≡◌, ℕ, ◌≤◌, ◌&&◌, Some, nat_le}
use Rattle.rulings.specs.Points.{Points, Lowest}
use Rattle.answers.specs.declared.fault.Refusal.TheVariants.{NoSuchPoint, StrayMark}
use Rattle.answers.specs.declared.fault.Layer.{Layer}
use Rattle.answers.specs.declared.fault.Fault.{Fault}
use Rattle.answers.specs.Faults.{fault_of}

-- the points of a ruling that a book of size n does not have
abbrev pub stray : ℕ → Points → Points
stray n x a = nat_le n a && x a

-- denied by a layer, since a book of size n does not have point a
abbrev pub PointDenied : Layer → ℕ → ℕ → Fault → Type 0
PointDenied l n a f = (f ≡ fault_of l (NoSuchPoint a)) × (n ≤ a)

-- denied by a layer for a stray mark, the lowest point of a ruling that a book of size n does not have
abbrev pub MarkDenied : Layer → ℕ → Points → Fault → Type 0
MarkDenied l n x f = (s : ℕ) × (f ≡ fault_of l (StrayMark s)) × Lowest (stray n x) (Some s)
