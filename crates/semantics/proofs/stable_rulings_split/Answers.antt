-- Closures and stable rulings split.
use Rattle.semantics.proofs.Splitting.{closure_splits, stable_splits}
use Rattle.semantics.proofs.stable_rulings_split.Goals as goal

pub returns : goal.returns
returns c = record { closures = closure_splits; stable = stable_splits }
