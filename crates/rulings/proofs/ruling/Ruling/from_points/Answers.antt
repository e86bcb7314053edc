use Rattle.std.proofs.Common.{Bool, ◌&&◌, ltb, ap, ◌∙◌, arith}
use Rattle.rulings.specs.Rulings.{has}
use Rattle.rulings.proofs.Listed.{listed_more, listed_all}
use Rattle.rulings.proofs.ruling.Ruling.from_points.Goals as goal

pub loop-point-preserved : goal.loop-point-preserved
loop-point-preserved c =
    listed_more c.args.points.now c.loop-point.point-index (omega arith) (has c.loop-point.ruling) (has c.insert.new.self) c.loop-point.invariant c.insert.ensures

pub returns : goal.returns
returns c a =
    c.loop-point.invariant a ∙ ap (λ (t : Bool). t && ltb a 128) (listed_all c.args.points.now c.loop-point.point-index a (omega arith))
