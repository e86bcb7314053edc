-- What a marker answers where rulings that are lent to it are empty.
use Rattle.std.specs.Prelude.{◌≡◌, ℕ, false, List, Result, replicate}
use Rattle.rulings.specs.Rulings.{has}
use Rattle.rulings.specs.declared.ruling.Ruling.{Ruling}
use Rattle.semantics.specs.Meaning.{Meaning}
use Rattle.answers.specs.declared.fault.Fault.{Fault}
use Rattle.answers.specs.declared.listing.Listing.{Listing}
use Rattle.books.specs.Promise.{Outcome}
use Rattle.marker.specs.Listing.{Listed}
use Rattle.marker.specs.Reading.{ReadInto}

-- the ruling has no points
abbrev pub Empty : Ruling → Type 0
Empty r = (a : ℕ) → has r a ≡ false

-- what reading into two empty rulings answers, and what they hold then
abbrev pub ReadAfresh : Meaning → (ℕ → ℕ) → Outcome → Ruling → Ruling → Type 0
ReadAfresh m ch r sure possible =
    (s : Ruling) × (p : Ruling) × Empty s × Empty p × ReadInto m ch r s p sure possible

-- what listing into eight empty rows answers, and what they hold then
abbrev pub ListedAfresh : Meaning → (ℕ → ℕ) → Result Listing Fault → List Ruling → Type 0
ListedAfresh m ch r rows = (e : Ruling) × Empty e × Listed m ch (replicate 8 e) r rows
