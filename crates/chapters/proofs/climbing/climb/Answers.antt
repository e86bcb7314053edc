-- Where nothing is new, and after as many turns as there are points, the climb is at its top.
use Rattle.std.proofs.Common.{arith}
use Rattle.chapters.proofs.Turns.{climbed_more, climbed_settled, climbed_all}
use Rattle.chapters.proofs.climbing.climb.Goals as goal

pub returns-then-is_part_of-clause-top : goal.returns-then-is_part_of-clause-top
returns-then-is_part_of-clause-top g c f s =
    climbed_settled _ c.args.turns f s c.loop-turn._turn c.loop-turn.x (c.loop-turn.invariant f s) c.step-found.result c.step-found.ensures (c.is_part_of.ensures.0 c.if-is_part_of.true)

pub loop-turn-preserved : goal.loop-turn-preserved
loop-turn-preserved g c f s =
    climbed_more _ c.args.turns f s c.loop-turn._turn c.loop-turn.x (c.loop-turn.invariant f s) c.step-found.result c.step-found.ensures

pub returns-clause-top : goal.returns-clause-top
returns-clause-top g c f s =
    climbed_all _ c.args.turns f s c.loop-turn._turn c.loop-turn.x (c.loop-turn.invariant f s) (omega arith)
