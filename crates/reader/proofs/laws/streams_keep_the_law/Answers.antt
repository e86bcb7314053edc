-- By the laws of both sorts of book.
use Rattle.reader.proofs.StreamLaws.{stream_law}
use Rattle.reader.proofs.laws.streams_keep_the_law.Goals as goal

pub returns : goal.returns
returns g c s e s' e' input output input' output' X Y =
    stream_law g.B.Book g.C.Book
    (record { lawful = g.met.B.Book.lawful; opens = g.met.B.Book.opens; enters = g.met.B.Book.enters; withdraws = g.met.B.Book.withdraws })
    (record { lawful = g.met.C.Book.lawful; opens = g.met.C.Book.opens; enters = g.met.C.Book.enters; withdraws = g.met.C.Book.withdraws })
    X Y
