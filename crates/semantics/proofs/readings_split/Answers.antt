-- The well-founded model splits.
use Rattle.semantics.proofs.SplitReading.{well_founded_splits}
use Rattle.semantics.proofs.readings_split.Goals as goal

pub returns : goal.returns
returns c = well_founded_splits
