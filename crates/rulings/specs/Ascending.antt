-- The points of a ruling as a list, lowest first.
use Rattle.std.specs.Prelude.{ℕ, ◌-◌, List, filter}
use Rattle.std.specs.List.{range_with_len}
use Rattle.rulings.specs.Rulings.{has}
use Rattle.rulings.specs.declared.ruling.Ruling.{Ruling}
use Rattle.rulings.specs.declared.ruling.points.Points.{Points}

-- the points of a ruling from a number on: those of the numbers up to 127 that it has
abbrev pub points_from : Ruling → ℕ → List ℕ
points_from r n = filter (has r) (range_with_len n (128 - n))

-- the points that are still to come
abbrev pub points_left : Points → List ℕ
points_left p = points_from p.ruling p.next
