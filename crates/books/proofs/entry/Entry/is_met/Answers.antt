-- The code asks for the supporters and the strikers as the meaning does.
use Rattle.std.proofs.Common.{refl, ◌∙◌}
use Rattle.rulings.specs.Rulings.{has}
use Rattle.books.proofs.Conditions.{covers_is, avoids_is}
use Rattle.books.proofs.entry.Entry.is_met.Goals as goal

pub returns-then-is_part_of : goal.returns-then-is_part_of
returns-then-is_part_of c =
    let met = covers_is c.args.self.now.supporters (has c.args.x) c.is_part_of.result c.is_part_of.ensures in
    avoids_is c.args.self.now.strikers (has c.args.y) c.is_disjoint_from.result c.is_disjoint_from.ensures ∙ rw (← met, c.if-is_part_of.true) refl

pub returns-else-is_part_of : goal.returns-else-is_part_of
returns-else-is_part_of c =
    let met = covers_is c.args.self.now.supporters (has c.args.x) c.is_part_of.result c.is_part_of.ensures in
    rw (← met, c.if-is_part_of.false) refl
