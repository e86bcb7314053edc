-- Each turn has gone one step up.
use Rattle.std.proofs.Common.{◌≡◌}
use Rattle.rulings.specs.Points.{Points}
use Rattle.rulings.specs.Rulings.{has}
use Rattle.semantics.proofs.LeastFixpoint.{iterate}
use Rattle.chapters.specs.Climbing.{StepOf}
use Rattle.chapters.proofs.climbing.climb.Given as goal

abbrev pub invariant-loop-turn : goal.invariant-loop-turn
invariant-loop-turn g l = (f : Points → Points) → StepOf (goal.F-post g l.step) l.turns f → has l.x ≡ iterate f l._turn
