-- The closure is the one that is computed.
use Rattle.semantics.proofs.Closures.{closure, is_closure, unique, shrinks}
use Rattle.semantics.proofs.closures_exist.Goals as goal

pub returns : goal.returns
returns c = record { exists = λ m l y. (closure m y, is_closure m l y); unique = unique; shrinks = shrinks }
