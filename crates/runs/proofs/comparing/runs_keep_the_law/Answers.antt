-- By the laws of both sorts of book.
use Rattle.runs.proofs.Laws.{marker_law}
use Rattle.runs.proofs.comparing.runs_keep_the_law.Goals as goal

pub returns : goal.returns
returns g c =
    marker_law g.B.Book g.C.Book
    (record { lawful = g.met.B.Book.lawful; opens = g.met.B.Book.opens; enters = g.met.B.Book.enters; withdraws = g.met.B.Book.withdraws })
    (record { lawful = g.met.C.Book.lawful; opens = g.met.C.Book.opens; enters = g.met.C.Book.enters; withdraws = g.met.C.Book.withdraws })
