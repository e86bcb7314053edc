-- What every book promises of its three changes, in terms of its meaning alone.
use Rattle.std.specs.Prelude.{◌≡◌, ℕ, ◌<◌, ◌≤◌, ◌⊎◌, ◌↔◌, Some, None, Ok, Err, Result, ◌≢◌}
use Rattle.rulings.specs.Points.{Points, union, Lowest}
use Rattle.rulings.specs.Rulings.{has}
use Rattle.rulings.specs.declared.ruling.Ruling.{Ruling}
use Rattle.semantics.specs.Meaning.{Meaning}
use Rattle.answers.specs.declared.fault.Refusal.{Refusal}
use Rattle.answers.specs.declared.fault.Refusal.TheVariants.{BadSize, NoSuchPoint, StrayMark}
use Rattle.answers.specs.declared.fault.Layer.TheVariants.{Book}
use Rattle.answers.specs.declared.fault.Fault.{Fault}
use Rattle.answers.specs.Faults.{number, fault_of}
use Rattle.answers.specs.Checks.{stray, PointDenied, MarkDenied}

-- what a change answers: done, or a fault
abbrev pub Outcome : Type 0
Outcome = Result Unit Fault

-- the book denied the change with this refusal
abbrev pub Refused : Outcome → Refusal → Type 0
Refused r why = r ≡ Err (fault_of Book why)

-- a fault that the sort of book decides: refusals 4, 5 and 6, of the book's layer
abbrev pub BySort : Fault → Type 0
BySort f = (why : Refusal) × (f ≡ fault_of Book why) × (4 ≤ number why) × (number why ≤ 6)

-- no book has this size
abbrev pub BadSizeFor : ℕ → Type 0
BadSizeFor n = (n ≡ 0) ⊎ (128 < n)

-- the points of two rulings that a book of size n does not have
abbrev pub strays : ℕ → Ruling → Ruling → Points
strays n p q = stray n (union (has p) (has q))

-- Why an entering is denied, the smaller number first: there is no such point; or a point is stray, and the lowest is
-- named; or `own`, which the sort of book decides.
abbrev pub EnteringDenied : ℕ → ℕ → Ruling → Ruling → (Fault → Type 0) → Fault → Type 0
EnteringDenied n a p q own f =
    PointDenied Book n a f
    ⊎ ((MarkDenied Book n (union (has p) (has q)) f × (a < n))
    ⊎ (own f × (a < n) × Lowest (strays n p q) None))

-- why a withdrawing is denied: there is no such point, or `own`, which the sort of book decides
abbrev pub WithdrawingDenied : ℕ → ℕ → (Fault → Type 0) → Fault → Type 0
WithdrawingDenied n a own f = PointDenied Book n a f ⊎ (own f × (a < n))

-- the answers for every point but a are as they were
pub record SameBut (a : ℕ) (m m' : Meaning) : Type 0 where
  pub derives : (b : ℕ) → (b ≢ a) → (x y : Points) → m'.derives x y b ≡ m.derives x y b
  pub reads : (b : ℕ) → (b ≢ a) → (c : ℕ) → m'.reads b c ≡ m.reads b c

-- opening with size n
pub record Opening (m : Meaning) (n : ℕ) (r : Outcome) (m' : Meaning) : Type 0 where
  pub bad_size : Refused r BadSize ↔ BadSizeFor n
  pub otherwise : (f : Fault) → r ≡ Err f → (f ≡ fault_of Book BadSize) ⊎ BySort f
  pub accepted : r ≡ Ok tt → m'.size ≡ n
  pub unaltered : (f : Fault) → r ≡ Err f → m' ≡ m

-- entering point a with the rulings p and q
pub record Entering (m : Meaning) (a : ℕ) (p q : Ruling) (r : Outcome) (m' : Meaning) : Type 0 where
  pub no_such_point : Refused r (NoSuchPoint a) ↔ (m.size ≤ a)
  -- the stray point named is the lowest of both rulings
  pub stray_mark : (s : ℕ) →
      Refused r (StrayMark s) ↔ ((a < m.size) × Lowest (strays m.size p q) (Some s))
  pub otherwise : (f : Fault) → r ≡ Err f →
      (f ≡ fault_of Book (NoSuchPoint a)) ⊎ (((s : ℕ) × (f ≡ fault_of Book (StrayMark s))) ⊎ BySort f)
  pub accepted : r ≡ Ok tt → (m'.size ≡ m.size) × SameBut a m m'
  pub unaltered : (f : Fault) → r ≡ Err f → m' ≡ m

-- withdrawing point a
pub record Withdrawing (m : Meaning) (a : ℕ) (r : Outcome) (m' : Meaning) : Type 0 where
  pub no_such_point : Refused r (NoSuchPoint a) ↔ (m.size ≤ a)
  pub otherwise : (f : Fault) → r ≡ Err f → (f ≡ fault_of Book (NoSuchPoint a)) ⊎ BySort f
  pub accepted : r ≡ Ok tt → (m'.size ≡ m.size) × SameBut a m m'
  pub unaltered : (f : Fault) → r ≡ Err f → m' ≡ m
