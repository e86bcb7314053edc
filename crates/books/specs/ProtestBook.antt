-- The protest book by its lodged points and their protesters: its meaning, and what each change does.
use Rattle.std.specs.Prelude.{◌≡◌, ℕ, ◌<◌, true, false, not, ◌&&◌, ◌||◌, Some, None, Ok, Err, ◌==◌}
use Rattle.rulings.specs.Points.{Points, Lowest}
use Rattle.rulings.specs.Rulings.{has}
use Rattle.rulings.specs.declared.ruling.Ruling.{Ruling}
use Rattle.semantics.specs.Meaning.{Meaning}
use Rattle.answers.specs.declared.fault.Refusal.TheVariants.{BadSize, NoSupportersHere, NothingEntered}
use Rattle.answers.specs.declared.fault.Layer.TheVariants.{Book}
use Rattle.answers.specs.declared.fault.Fault.{Fault}
use Rattle.books.specs.declared.protest_book.ProtestBook.{ProtestBook}
use Rattle.answers.specs.Faults.{fault_of}
use Rattle.books.specs.Promise.{Outcome, BadSizeFor, strays, EnteringDenied, WithdrawingDenied}
use Rattle.books.specs.Entries.{avoids}
use Rattle.books.specs.Protesters.{is_lodged, protesters_of}
use Rattle.books.specs.Program.{Program}

-- the points that are lodged
abbrev pub lodged : ProtestBook → Points
lodged b = is_lodged b.protesters

-- the protesters of a point
abbrev pub protesters : ProtestBook → ℕ → Points
protesters b = protesters_of b.protesters

-- What the book means: a point derives if it is lodged and none of its protesters is in y, and reads its protesters;
-- a point that is not lodged reads nothing.
abbrev pub protest_meaning : ProtestBook → Meaning
protest_meaning b =
    record {
      size = b.size;
      derives = λ x y a. lodged b a && avoids y (protesters b a);
      reads = λ a c. lodged b a && protesters b a c;
    }

-- the same as a program: "a if none of its protesters", for each lodged a
abbrev pub protest_program : ProtestBook → Program
protest_program b r = (a : ℕ) × (lodged b a ≡ true) × (r ≡ record { head = a; positive = λ _. false; negative = protesters b a })

-- opening: the size is set, and nothing is lodged or protested; denied for a bad size, the book is as found
abbrev pub ProtestOpened : ProtestBook → ℕ → Outcome → ProtestBook → Type 0
ProtestOpened b n (Ok _) b' =
    (BadSizeFor n → ⊥) × (b'.size ≡ n) × ((a : ℕ) → lodged b' a ≡ false) × ((a c : ℕ) → protesters b' a c ≡ false)
ProtestOpened b n (Err f) b' = BadSizeFor n × (f ≡ fault_of Book BadSize) × (b' ≡ b)

-- denied for supporters, of which the lowest is named
abbrev pub Supported : Ruling → Fault → Type 0
Supported p f = (c : ℕ) × (f ≡ fault_of Book (NoSupportersHere c)) × Lowest (has p) (Some c)

-- why an entering is denied: for what every book denies, or for supporters
abbrev pub ProtestDenied : ProtestBook → ℕ → Ruling → Ruling → Fault → Type 0
ProtestDenied b a p q = EnteringDenied b.size a p q (Supported p)

-- entering: the point is lodged, and q is added to the protesters that it has; denied, the book is as found
abbrev pub ProtestEntered : ProtestBook → ℕ → Ruling → Ruling → Outcome → ProtestBook → Type 0
ProtestEntered b a p q (Ok _) b' =
    (a < b.size) × Lowest (strays b.size p q) None × Lowest (has p) None × (b'.size ≡ b.size)
    × ((c : ℕ) → lodged b' c ≡ lodged b c || c == a)
    × ((c d : ℕ) → protesters b' c d ≡ protesters b c d || (c == a && has q d))
ProtestEntered b a p q (Err f) b' = ProtestDenied b a p q f × (b' ≡ b)

-- denied since nothing is entered: the point is not lodged
abbrev pub NotLodged : ProtestBook → ℕ → Fault → Type 0
NotLodged b a f = (f ≡ fault_of Book (NothingEntered a)) × (lodged b a ≡ false)

-- why a withdrawing is denied: for what every book denies, or because the point is not lodged
abbrev pub ProtestWithdrawDenied : ProtestBook → ℕ → Fault → Type 0
ProtestWithdrawDenied b a = WithdrawingDenied b.size a (NotLodged b a)

-- withdrawing: the lodging of the point and its protesters are taken back; denied, the book is as found
abbrev pub ProtestWithdrawn : ProtestBook → ℕ → Outcome → ProtestBook → Type 0
ProtestWithdrawn b a (Ok _) b' =
    (a < b.size) × (lodged b a ≡ true) × (b'.size ≡ b.size)
    × ((c : ℕ) → lodged b' c ≡ lodged b c && not (c == a))
    × ((c d : ℕ) → protesters b' c d ≡ protesters b c d && not (c == a))
ProtestWithdrawn b a (Err f) b' = ProtestWithdrawDenied b a f × (b' ≡ b)
