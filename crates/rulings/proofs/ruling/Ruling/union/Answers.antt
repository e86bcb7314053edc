use Rattle.std.proofs.Common.{rules, ◌||◌, bit_or}
use Rattle.rulings.proofs.Bitwise.{or_bitwise, combined_has}
use Rattle.rulings.proofs.ruling.Ruling.union.Goals as goal

pub returns : goal.returns
returns c = combined_has bit_or ◌||◌ or_bitwise _ _ _ (λ i h. let made = c.combined.ensures i h in search rules)
