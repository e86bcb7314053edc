-- Each line is an entry of the book.
use Rattle.worked.proofs.Inside.{lines_inside}
use Rattle.worked.proofs.lines_are_inside.Goals as goal

pub returns : goal.returns
returns c = lines_inside
