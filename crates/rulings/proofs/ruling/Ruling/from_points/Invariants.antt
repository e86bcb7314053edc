use Rattle.std.proofs.Common.{◌≡◌, ℕ, ◌&&◌, ltb, take}
use Rattle.rulings.specs.Points.{listed}
use Rattle.rulings.specs.Rulings.{has}
use Rattle.rulings.proofs.ruling.Ruling.from_points.Given as goal

abbrev pub invariant-loop-point : goal.invariant-loop-point
invariant-loop-point l = (a : ℕ) → has l.ruling a ≡ listed (take l.point-index l.points) a && ltb a 128
