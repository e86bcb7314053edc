-- No point of 128 or above, and one ruling for each set of points.
use Rattle.rulings.proofs.Bytes.{has_past, same_points}
use Rattle.rulings.proofs.ruling.laws.rulings_are_their_points.Goals as goal

pub returns : goal.returns
returns c = record { outside = has_past; same = same_points }
