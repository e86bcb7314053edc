-- The walk of a listing: how it ends. No public contract cites this file.
use Rattle.std.specs.Prelude.{◌≡◌, ℕ, ◌<◌, ◌≤◌, ◌⊎◌, List, length, take, drop, Some, None, Option}
use Rattle.rulings.specs.declared.ruling.Ruling.{Ruling}
use Rattle.semantics.specs.Meaning.{Meaning}
use Rattle.semantics.specs.Listing.{AllInRowOrder, Effort, AllPartsStable}
use Rattle.answers.specs.declared.fault.Refusal.{Refusal}
use Rattle.answers.specs.declared.fault.Refusal.TheVariants.{TooMuchToTry, ListTooShort}
use Rattle.answers.specs.declared.listing.Listing.{Listing}
use Rattle.marker.specs.Listing.{MoreStable}

-- How a walk ends: past the ceiling, so that the effort is above it; or with the effort, and the number of rulings found.
-- They are in the rows, in row order, the later rows as found, unless there are more of them than rows.
pub record Walked (m : Meaning) (ch : ℕ → ℕ) (found : List Ruling) (l : Listing) (left : List Ruling) : Type 0 where
  pub as_long : length left ≡ length found
  pub past : 65536 < l.effort → (e : ℕ) × Effort m ch e × (65536 < e)
  pub spent : l.effort ≤ 65536 → Effort m ch l.effort
  pub listed : l.effort ≤ 65536 → l.rows ≤ length found →
      AllInRowOrder (AllPartsStable m ch) (take l.rows left) × (drop l.rows left ≡ drop l.rows found)
  pub more : l.effort ≤ 65536 → length found < l.rows → MoreStable m ch (length found)

-- why a walk was in vain, if it was: too much to try goes before list too short
abbrev pub InVain : Listing → ℕ → Option Refusal → Type 0
InVain l n None = (l.effort ≤ 65536) × (l.rows ≤ n)
InVain l n (Some why) =
    ((why ≡ TooMuchToTry) × (65536 < l.effort)) ⊎ ((why ≡ ListTooShort) × (l.effort ≤ 65536) × (n < l.rows))
