-- A chapter is a lawful book.
use Rattle.semantics.proofs.Splitting.{chapter_lawful}
use Rattle.semantics.proofs.chapters_are_books.Goals as goal

pub returns : goal.returns
returns c = chapter_lawful
