-- The rule book by its list of entries: its meaning, and what each change does to the list.
use Rattle.std.specs.List.{list_any}
use Rattle.std.specs.Prelude.{◌≡◌, ℕ, ◌<◌, true, false, not, List, [], ◌∷◌, ◌++◌, length, None, Ok, Err, filter}
use Rattle.rulings.specs.Points.{Lowest}
use Rattle.rulings.specs.declared.ruling.Ruling.{Ruling}
use Rattle.semantics.specs.Meaning.{Meaning}
use Rattle.answers.specs.declared.fault.Refusal.TheVariants.{BadSize, BookFull, NothingEntered}
use Rattle.answers.specs.declared.fault.Layer.TheVariants.{Book}
use Rattle.answers.specs.declared.fault.Fault.{Fault}
use Rattle.books.specs.declared.entry.Entry.{Entry}
use Rattle.books.specs.declared.rule_book.RuleBook.{RuleBook}
use Rattle.answers.specs.Faults.{fault_of}
use Rattle.books.specs.Promise.{Outcome, BadSizeFor, strays, EnteringDenied, WithdrawingDenied}
use Rattle.books.specs.Entries.{standing, for_point, by_entries}

-- the entries of the book, oldest first
abbrev pub entries : RuleBook → List Entry
entries b = standing b.table

-- what the book means
abbrev pub meaning_of : RuleBook → Meaning
meaning_of b = by_entries b.size (entries b)

-- the entry for point a with supporters p and strikers q
abbrev pub entry : ℕ → Ruling → Ruling → Entry
entry a p q = record { point = a; supporters = p; strikers = q }

-- opening: the size is set and no entry is left; denied for a bad size, the book is as found
abbrev pub Opened : RuleBook → ℕ → Outcome → RuleBook → Type 0
Opened b n (Ok _) b' = (BadSizeFor n → ⊥) × (b'.size ≡ n) × (entries b' ≡ [])
Opened b n (Err f) b' = BadSizeFor n × (f ≡ fault_of Book BadSize) × (b' ≡ b)

-- denied since the book is full: it has 256 entries
abbrev pub Full : RuleBook → Fault → Type 0
Full b f = (f ≡ fault_of Book BookFull) × (length (entries b) ≡ 256)

-- why an entering is denied: for what every book denies, or because this one is full
abbrev pub EnterDenied : RuleBook → ℕ → Ruling → Ruling → Fault → Type 0
EnterDenied b a p q = EnteringDenied b.size a p q (Full b)

-- entering: one entry more, behind the others; denied, the book is as found
abbrev pub Entered : RuleBook → ℕ → Ruling → Ruling → Outcome → RuleBook → Type 0
Entered b a p q (Ok _) b' =
    (a < b.size) × Lowest (strays b.size p q) None × (length (entries b) < 256) × (b'.size ≡ b.size) × (entries b' ≡ entries b ++ entry a p q ∷ [])
Entered b a p q (Err f) b' = EnterDenied b a p q f × (b' ≡ b)

-- denied since nothing is entered: no entry is for the point
abbrev pub NoEntry : RuleBook → ℕ → Fault → Type 0
NoEntry b a f = (f ≡ fault_of Book (NothingEntered a)) × (list_any (for_point a) (entries b) ≡ false)

-- why a withdrawing is denied: for what every book denies, or because no entry is for the point
abbrev pub WithdrawDenied : RuleBook → ℕ → Fault → Type 0
WithdrawDenied b a = WithdrawingDenied b.size a (NoEntry b a)

-- withdrawing: every entry for the point is taken out, the others stay in their order; denied, the book is as found
abbrev pub Withdrawn : RuleBook → ℕ → Outcome → RuleBook → Type 0
Withdrawn b a (Ok _) b' =
    (a < b.size) × (list_any (for_point a) (entries b) ≡ true) × (b'.size ≡ b.size) × (entries b' ≡ filter (λ e. not (for_point a e)) (entries b))
Withdrawn b a (Err f) b' = WithdrawDenied b a f × (b' ≡ b)
