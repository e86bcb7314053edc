-- Listing every stable ruling into rows that the caller lends.
use Rattle.std.specs.Prelude.{◌≡◌, ℕ, ◌<◌, ◌≤◌, false, ◌⊎◌, List, length, take, drop, Ok, Err, Result, slice_index_or}
use Rattle.rulings.specs.Rulings.{has}
use Rattle.rulings.specs.declared.ruling.Ruling.{Ruling}
use Rattle.semantics.specs.Meaning.{Meaning}
use Rattle.semantics.specs.Chapters.{Fit}
use Rattle.semantics.specs.Listing.{width, AllInRowOrder, Effort, AllPartsStable}
use Rattle.answers.specs.declared.fault.Refusal.TheVariants.{ChapterTooWide, TooMuchToTry, ListTooShort}
use Rattle.answers.specs.declared.fault.Layer.TheVariants as layer
use Rattle.answers.specs.declared.fault.Fault.{Fault}
use Rattle.answers.specs.Faults.{fault_of}
use Rattle.answers.specs.declared.listing.Listing.{Listing}
use Rattle.chapters.specs.Fitting.{UpwardDenied}

-- no chapter has more than 12 points
abbrev pub NoneWide : Meaning → (ℕ → ℕ) → Type 0
NoneWide m ch = (k : ℕ) → k < 16 → width m ch k ≤ 12

-- denied for a chapter that is too wide, the lowest
abbrev pub WideDenied : Meaning → (ℕ → ℕ) → Fault → Type 0
WideDenied m ch f =
    (k : ℕ) × (f ≡ fault_of layer.Marker (ChapterTooWide k)) × (k < 16) × (12 < width m ch k) × ((j : ℕ) → j < k → width m ch j ≤ 12)

-- there are as many rows as were found, and every one is the empty ruling, sixteen bytes zero
abbrev pub AllEmpty : List Ruling → List Ruling → Type 0
AllEmpty found left =
    (length left ≡ length found) × ((i : ℕ) (d : Ruling) → i < length left → (a : ℕ) → has (slice_index_or left i d) a ≡ false)

-- more than n rulings have all their parts stable
abbrev pub MoreStable : Meaning → (ℕ → ℕ) → ℕ → Type 0
MoreStable m ch n = (rows : List Ruling) × AllInRowOrder (AllPartsStable m ch) rows × (n < length rows)

-- denied before anything is tried: for chapters that do not fit, then for a chapter too wide
abbrev pub NotTried : Meaning → (ℕ → ℕ) → Fault → Type 0
NotTried m ch f = UpwardDenied m ch f ⊎ (Fit m ch × WideDenied m ch f)

-- denied after trying: for too much to try, the effort being above the ceiling; then, into n rows, for a list too short
abbrev pub TriedInVain : Meaning → (ℕ → ℕ) → ℕ → Fault → Type 0
TriedInVain m ch n f =
    Fit m ch × NoneWide m ch × ((e : ℕ) × Effort m ch e
    × (((f ≡ fault_of layer.Marker TooMuchToTry) × (65536 < e)) ⊎ ((f ≡ fault_of layer.Marker ListTooShort) × (e ≤ 65536) × MoreStable m ch n)))

-- Listing: all rulings whose parts are all stable, each once, in row order, their number and the effort; later rows as found.
-- Denied before anything is tried, it leaves the rows as found; denied after trying, it leaves every row empty.
abbrev pub Listed : Meaning → (ℕ → ℕ) → List Ruling → Result Listing Fault → List Ruling → Type 0
Listed m ch found (Ok l) left =
    Fit m ch × NoneWide m ch × Effort m ch l.effort × (l.effort ≤ 65536) × (l.rows ≤ length found)
    × AllInRowOrder (AllPartsStable m ch) (take l.rows left) × (drop l.rows left ≡ drop l.rows found)
Listed m ch found (Err f) left =
    (NotTried m ch f × (left ≡ found)) ⊎ (TriedInVain m ch (length found) f × AllEmpty found left)
