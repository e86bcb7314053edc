use Rattle.std.proofs.Common.{rules, ◌&&◌, bit_and}
use Rattle.rulings.proofs.Bitwise.{and_bitwise, combined_has}
use Rattle.rulings.proofs.ruling.Ruling.intersection.Goals as goal

pub returns : goal.returns
returns c = combined_has bit_and ◌&&◌ and_bitwise _ _ _ (λ i h. let made = c.combined.ensures i h in search rules)
