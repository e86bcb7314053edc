-- Each worked book by its check.
use Rattle.worked.proofs.Results.{worked}
use Rattle.worked.proofs.worked_books.Goals as goal

pub returns : goal.returns
returns c = worked
