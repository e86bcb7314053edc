-- The subset is complete with those that the digits left choose of the points to come.
use Rattle.std.proofs.Common.{◌≡◌, ℕ, ◌<◌, ◌||◌}
use Rattle.rulings.specs.Rulings.{has}
use Rattle.rulings.specs.Ascending.{points_left}
use Rattle.semantics.specs.Walk.{spread}
use Rattle.chapters.proofs.Spreading.{chosen}
use Rattle.chapters.proofs.candidates.spread.Given as goal

abbrev pub invariant-loop-point : goal.invariant-loop-point
invariant-loop-point l =
    (l.point-iterator.b.end ≡ 16)
    × ((a : ℕ) → a < 128 → has l.subset a || chosen l.number l.point-iterator.b.start (points_left l.point-iterator.a) a ≡ spread (has l.fn.points) l.number a)
