-- Both streams with their law; where memory runs out, the histories of the calls made so far.
use Rattle.std.proofs.Common.{vec_items}
use Rattle.std.proofs.lemmas.Result.{err_from_is_err_and}
use Rattle.runs.proofs.CallKinds.{Promises}
use Rattle.reader.proofs.Pairs.{served_so_far, served_both, served_both_so_far}
use Rattle.reader.proofs.Streaming.{not_begun}
use Rattle.reader.proofs.serving.serve_both.Given as given
use Rattle.reader.proofs.serving.serve_both.Goals as goal

first_promises : (g : given.Over) → Promises g.B.Book
first_promises g = record { lawful = g.met.B.Book.lawful; opens = g.met.B.Book.opens; enters = g.met.B.Book.enters; withdraws = g.met.B.Book.withdraws }

second_promises : (g : given.Over) → Promises g.C.Book
second_promises g = record { lawful = g.met.C.Book.lawful; opens = g.met.C.Book.opens; enters = g.met.C.Book.enters; withdraws = g.met.C.Book.withdraws }

pub returns-in_err-replies : goal.returns-in_err-replies
returns-in_err-replies g c =
    let p = err_from_is_err_and c.from_residual.result c.from_residual.ensures.1 in
    rw p.1
    (served_both_so_far g.B.Book g.C.Book (first_promises g) (second_promises g) c.in_err-replies.ensures
    (not_begun g.C.Book c.args.second.now c.args.other.now))

pub returns-in_err-others : goal.returns-in_err-others
returns-in_err-others g c =
    let p = err_from_is_err_and c.from_residual-in_err-others.result c.from_residual-in_err-others.ensures.1 in
    rw p.1
    (served_both_so_far g.B.Book g.C.Book (first_promises g) (second_promises g)
    (served_so_far g.B.Book c.args.first.now c.args.input.now (vec_items c.in_ok-replies.replies) c.serve.new.marker c.in_ok-replies.ensures)
    c.in_err-others.ensures)

pub returns : goal.returns
returns g c = served_both g.B.Book g.C.Book (first_promises g) (second_promises g) c.in_ok-replies.ensures c.in_ok-others.ensures
