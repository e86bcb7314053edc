use Rattle.rulings.specs.Rulings.{has}
use Rattle.rulings.proofs.Equality.{none_shared}
use Rattle.rulings.proofs.ruling.Ruling.is_disjoint_from.Goals as goal

pub returns : goal.returns
returns c = none_shared (has c.args.self) (has c.args.other) _ _ _ c.intersection.ensures c.empty.ensures c.eq.ensures
