-- The audit: all upward readings, each once, in their order.
use Rattle.std.specs.Prelude.{◌≡◌, ℕ, ◌-◌, ◌<◌, ◌≤◌, true, List, length, take, drop, replicate, Some, None, Ok, Err, Option, Result}
use Rattle.std.specs.List.{ContainsAt}
use Rattle.rows.specs.Rows.{StrictlyInOrder}
use Rattle.semantics.specs.Meaning.{Meaning}
use Rattle.answers.specs.declared.fault.Refusal.TheVariants.{ListTooShort}
use Rattle.answers.specs.declared.fault.Layer.TheVariants as layer
use Rattle.answers.specs.declared.fault.Fault.{Fault}
use Rattle.answers.specs.Faults.{fault_of}
use Rattle.answers.specs.declared.audit.UpwardReading.{UpwardReading}
use Rattle.answers.specs.AuditRows.{AuditedBefore, zero_row}
use Rattle.chapters.specs.Fitting.{upward}

-- the row for the reading of b by a: the drop is the chapter of b less that of a
abbrev pub reading_row : (ℕ → ℕ) → ℕ → ℕ → UpwardReading
reading_row ch a b = record { drop = ch b - ch a; reader = a; read = b }

-- the rows are all the upward readings, each once, in their order
pub record AllUpward (m : Meaning) (ch : ℕ → ℕ) (rows : List UpwardReading) : Type 0 where
  pub upward_only : (r : UpwardReading) → ContainsAt rows r → (a : ℕ) × (b : ℕ) × (upward m ch a b ≡ true) × (r ≡ reading_row ch a b)
  pub each_there : (a b : ℕ) → upward m ch a b ≡ true → ContainsAt rows (reading_row ch a b)
  pub in_order : StrictlyInOrder AuditedBefore rows

-- there are more than n upward readings
abbrev pub MoreUpward : Meaning → (ℕ → ℕ) → ℕ → Type 0
MoreUpward m ch n = (rows : List UpwardReading) × AllUpward m ch rows × (n < length rows)

-- Auditing into rows that the caller lends: all upward readings and their number, later rows as found;
-- list too short exactly if there are more readings than rows, and then every row is zero.
abbrev pub Audited : Meaning → (ℕ → ℕ) → List UpwardReading → Result ℕ Fault → List UpwardReading → Type 0
Audited m ch found (Ok n) left =
    (n ≤ length found) × AllUpward m ch (take n left) × (drop n left ≡ drop n found)
Audited m ch found (Err f) left =
    (f ≡ fault_of layer.Marker ListTooShort)
    × MoreUpward m ch (length found)
    × (left ≡ replicate (length found) zero_row)

-- gathering the readings before an audit answers: as an audit does, but rows that do not suffice are left in any way;
-- no public contract cites this
abbrev pub Gathers : Meaning → (ℕ → ℕ) → List UpwardReading → Option ℕ → List UpwardReading → Type 0
Gathers m ch found (Some n) left =
    (n ≤ length found) × AllUpward m ch (take n left) × (drop n left ≡ drop n found)
Gathers m ch found None left = MoreUpward m ch (length found)
