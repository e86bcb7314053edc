-- The walk lists the fillings of all chapters.
use Rattle.semantics.proofs.Subsets.{subsets_numbered}
use Rattle.semantics.proofs.StableTest.{stable_test, stable_test_tells}
use Rattle.semantics.proofs.Ways.{effort_unique}
use Rattle.semantics.proofs.Walk.{walk_completes, walk_effort}
use Rattle.semantics.proofs.walks_find_every_stable_ruling.Goals as goal

pub returns : goal.returns
returns c =
    record {
      subsets = subsets_numbered;
      test = λ m l ch. (stable_test m ch, stable_test_tells m l ch);
      completes = walk_completes;
      effort = walk_effort;
      one_effort = effort_unique;
    }
