-- Both histories with their law; where memory runs out, the histories of the calls made so far.
use Rattle.std.proofs.Common.{map, vec_items}
use Rattle.std.proofs.lemmas.Result.{err_from_is_err_and}
use Rattle.runs.specs.Step.{marker_calls}
use Rattle.runs.specs.Told.{told}
use Rattle.runs.proofs.CallKinds.{Keeps, marker_keeps}
use Rattle.runs.proofs.Chains.{not_begun, ended}
use Rattle.runs.proofs.Laws.{compared, compared_so_far}
use Rattle.runs.proofs.comparing.compare.Given as given
use Rattle.runs.proofs.comparing.compare.Goals as goal

first_keeps : (g : given.Over) → Keeps (marker_calls g.B.Book)
first_keeps g =
    marker_keeps g.B.Book
    (record { lawful = g.met.B.Book.lawful; opens = g.met.B.Book.opens; enters = g.met.B.Book.enters; withdraws = g.met.B.Book.withdraws })

second_keeps : (g : given.Over) → Keeps (marker_calls g.C.Book)
second_keeps g =
    marker_keeps g.C.Book
    (record { lawful = g.met.C.Book.lawful; opens = g.met.C.Book.opens; enters = g.met.C.Book.enters; withdraws = g.met.C.Book.withdraws })

pub returns-in_err-answers : goal.returns-in_err-answers
returns-in_err-answers g c =
    let p = err_from_is_err_and c.from_residual.result c.from_residual.ensures.1 in
    rw p.1
    (compared_so_far (marker_calls g.B.Book) (marker_calls g.C.Book) (first_keeps g) (second_keeps g) c.args.calls.now c.args.others.now
    c.in_err-answers.ensures
    (not_begun (marker_calls g.C.Book) c.args.second.now c.args.others.now))

pub returns-in_err-others : goal.returns-in_err-others
returns-in_err-others g c =
    let p = err_from_is_err_and c.from_residual-in_err-others.result c.from_residual-in_err-others.ensures.1 in
    rw p.1
    (compared_so_far (marker_calls g.B.Book) (marker_calls g.C.Book) (first_keeps g) (second_keeps g) c.args.calls.now c.args.others.now
    (ended (marker_calls g.B.Book) c.args.first.now c.args.calls.now (map told (vec_items c.in_ok-answers.answers)) c.replay.new.marker c.in_ok-answers.ensures)
    c.in_err-others.ensures)

pub returns : goal.returns
returns g c =
    compared (marker_calls g.B.Book) (marker_calls g.C.Book) (first_keeps g) (second_keeps g) c.in_ok-answers.ensures c.in_ok-others.ensures
