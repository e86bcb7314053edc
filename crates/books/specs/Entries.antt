-- Entries, and the meaning of a list of entries (a ground normal program by its operator).
use Rattle.std.specs.Prelude.{ℕ, zero, suc, Bool, true, not, ◌&&◌, ◌||◌, List, ◌==◌}
use Rattle.std.specs.List.{list_any}
use Rattle.rulings.specs.Points.{Points}
use Rattle.rulings.specs.Rulings.{has}
use Rattle.semantics.specs.Meaning.{Meaning}
use Rattle.books.specs.declared.entry.Entry.{Entry}
use Rattle.books.specs.declared.table.Table.{Table}

-- the entries that stand in a table, oldest first
abbrev pub standing : Table → List Entry
standing t = t.entries.items

-- the test holds of every number below n
unfoldable pub every_below : ℕ → (ℕ → Bool) → Bool
every_below zero test = true
every_below (suc n) test = test n && every_below n test

-- the entry is for point a
abbrev pub for_point : ℕ → Entry → Bool
for_point a e = e.point == a

-- all points of p are in x; p is the set of a ruling, so only points below 128 are asked
abbrev pub covers : Points → Points → Bool
covers x p = every_below 128 (λ b. not (p b) || x b)

-- no point of q is in y
abbrev pub avoids : Points → Points → Bool
avoids y q = every_below 128 (λ b. not (q b && y b))

-- the entry is for point a, and a derives by it under (x, y)
abbrev pub fires : ℕ → Points → Points → Entry → Bool
fires a x y e = for_point a e && (covers x (has e.supporters) && avoids y (has e.strikers))

-- the supporters and strikers of the entry
abbrev pub names : Entry → Points
names e b = has e.supporters b || has e.strikers b

-- the entry is for point a, and b is among its supporters or strikers
abbrev pub looks_at : ℕ → ℕ → Entry → Bool
looks_at a b e = for_point a e && names e b

-- The meaning of the entries of a book of size n: a point derives if some entry for it has all supporters in x
-- and no striker in y, and reads the supporters and strikers of its entries.
abbrev pub by_entries : ℕ → List Entry → Meaning
by_entries n es = record { size = n; derives = λ x y a. list_any (fires a x y) es; reads = λ a b. list_any (looks_at a b) es }
