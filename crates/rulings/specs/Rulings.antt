-- A ruling as a set of points: which bit of which byte stands for a point.
use Rattle.std.specs.Prelude.{◌≡◌, ℕ, ◌/◌, ◌%◌, ◌^◌, ◌<◌, ◌≤◌, Bool, false, ◌==◌, slice_index}
use Rattle.std.specs.Bool.{xor}
use Rattle.rulings.specs.Points.{Points}
use Rattle.rulings.specs.declared.ruling.Ruling.{Ruling}

-- the binary digit of worth 2 ^ k in a number
abbrev pub digit : ℕ → ℕ → Bool
digit n k = n / 2 ^ k % 2 == 1

-- the byte at a place, 0 past the sixteenth
abbrev pub byte : Ruling → ℕ → ℕ
byte r i = slice_index r.bytes i

-- the set of points that a ruling stands for (an interpretation):
-- point a is the bit of worth 2 ^ (a mod 8) in byte a div 8
unfoldable pub has : Ruling → Points
has r a = digit (byte r (a / 8)) (a % 8)

-- the points on which two rulings differ
abbrev pub differing : Ruling → Ruling → Points
differing r s a = xor (has r a) (has s a)

-- a point of 128 or above is in no ruling
abbrev pub PointsBelow128 : Type 0
PointsBelow128 = (r : Ruling) (a : ℕ) → 128 ≤ a → has r a ≡ false

-- two rulings with the same points below 128 are the same sixteen bytes
abbrev pub SamePointsSameRuling : Type 0
SamePointsSameRuling = (r s : Ruling) → ((a : ℕ) → a < 128 → has r a ≡ has s a) → r ≡ s
