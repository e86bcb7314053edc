-- No number past the size derives.
use Rattle.std.proofs.Common.{arith, rules}
use Rattle.std.proofs.lemmas.Bool.{false_from_ne_true}
use Rattle.rulings.specs.Rulings.{has}
use Rattle.chapters.proofs.Picked.{picked_all}
use Rattle.chapters.proofs.closures.derived.Goals as goal

pub returns : goal.returns
returns g c =
    let l = g.met.O.Operator.lawful c.args.operator.now in
    picked_all c.points_where.ensures _ (λ a b h k. search rules) (omega (arith, l.few_points))
    (λ a h. false_from_ne_true _ (λ e. let i = l.derives_inside (has c.args.x) (has c.args.y) a e in omega arith))
