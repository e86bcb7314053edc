use Rattle.std.proofs.Common.{not}
use Rattle.std.proofs.lemmas.Bool.{not-false, not_from_true}
use Rattle.rulings.specs.Rulings.{has}
use Rattle.rulings.proofs.Equality.{none_shared}
use Rattle.rulings.proofs.ruling.Ruling.is_part_of.Goals as goal

pub returns : goal.returns
returns c =
    let tested = none_shared (has c.args.self) (λ a. not (has c.args.other a)) _ _ _ c.difference.ensures c.empty.ensures c.eq.ensures in
    (λ e a h. not-false _ (tested.0 e a h), λ p. tested.1 (λ a h. not_from_true _ (p a h)))
