-- The table of protesters.
use Rattle.std.specs.Prelude.{ℕ, false, Option, None, is_some, slice_index_or}
use Rattle.std.specs.Option.{option_map_or}
use Rattle.rulings.specs.Points.{Points}
use Rattle.rulings.specs.Rulings.{has}
use Rattle.rulings.specs.declared.ruling.Ruling.{Ruling}
use Rattle.books.specs.declared.protesters.Protesters.{Protesters}

-- the row of a point: none where it is not lodged, or is past the table's end
abbrev pub row : Protesters → ℕ → Option Ruling
row t a = slice_index_or t.rows a None

-- the points that are lodged
abbrev pub is_lodged : Protesters → Points
is_lodged t a = is_some (row t a)

-- the protesters of a point; none where it is not lodged
abbrev pub protesters_of : Protesters → ℕ → Points
protesters_of t a = option_map_or has (row t a) (λ _. false)
