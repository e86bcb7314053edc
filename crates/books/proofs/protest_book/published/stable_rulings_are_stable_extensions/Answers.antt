-- The stable sets are the stable extensions.
use Rattle.books.proofs.Framework.{stable_is_stable_extension}
use Rattle.books.proofs.protest_book.published.stable_rulings_are_stable_extensions.Goals as goal

pub returns : goal.returns
returns c = stable_is_stable_extension
