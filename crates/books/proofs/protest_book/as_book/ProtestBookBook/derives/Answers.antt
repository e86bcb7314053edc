-- The code asks for the protesters as the meaning does.
use Rattle.std.proofs.Common.{rules}
use Rattle.books.proofs.Rows.{row_avoids}
use Rattle.books.proofs.protest_book.as_book.ProtestBookBook.derives.Goals as goal

pub returns : goal.returns
returns c = rw (← c.of.ensures) (row_avoids c.of.result c.args.y c.is_some_and.result (search rules))
