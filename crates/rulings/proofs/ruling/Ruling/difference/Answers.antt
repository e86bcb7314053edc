use Rattle.std.proofs.Common.{rules, ◌&&◌, not}
use Rattle.rulings.proofs.Bitwise.{lacking, lacking_bitwise, combined_has}
use Rattle.rulings.proofs.ruling.Ruling.difference.Goals as goal

pub returns : goal.returns
returns c = combined_has lacking (λ x y. x && not y) lacking_bitwise _ _ _ (λ i h. let made = c.combined.ensures i h in search rules)
