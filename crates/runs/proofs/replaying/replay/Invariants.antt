-- So far: a history of the calls made.
use Rattle.std.proofs.Common.{map, take, vec_items}
use Rattle.runs.specs.History.{History}
use Rattle.runs.specs.Step.{marker_calls}
use Rattle.runs.specs.Told.{told}
use Rattle.runs.proofs.replaying.replay.Given as goal

abbrev pub invariant-loop-call : goal.invariant-loop-call
invariant-loop-call g l =
    History (marker_calls g.B.Book) l.initial.marker (take l.call-index l.calls) (map told (vec_items l.answers)) l.marker
