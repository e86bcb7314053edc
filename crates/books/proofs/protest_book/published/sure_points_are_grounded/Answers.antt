-- The grounded extension is what is sure.
use Rattle.books.proofs.Framework.{grounded_exactly_if_sure}
use Rattle.books.proofs.protest_book.published.sure_points_are_grounded.Goals as goal

pub returns : goal.returns
returns c = grounded_exactly_if_sure
