-- Entries as they are written, by lists of points.
use Rattle.std.specs.Prelude.{◌≡◌, ℕ, ◌&&◌, List, nat_lt}
use Rattle.rulings.specs.Points.{listed}
use Rattle.rulings.specs.Rulings.{has}
use Rattle.books.specs.declared.entry.Entry.{Entry}

-- an entry as it is written: the point, if all of the supporters and none of the strikers
pub record Line : Type 0 where
  pub point : ℕ
  pub supporters : List ℕ
  pub strikers : List ℕ

-- `line a p q` is "a if p and not q"
abbrev pub line : ℕ → List ℕ → List ℕ → Line
line a p q = record { point = a; supporters = p; strikers = q }

-- the entry is the line; points of 128 or above are in no ruling
pub record Says (e : Entry) (l : Line) : Type 0 where
  pub point : e.point ≡ l.point
  pub supporters : (a : ℕ) → has e.supporters a ≡ listed l.supporters a && nat_lt a 128
  pub strikers : (a : ℕ) → has e.strikers a ≡ listed l.strikers a && nat_lt a 128
