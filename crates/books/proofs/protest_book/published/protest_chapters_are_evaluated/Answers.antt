-- The protest book is given by its program, whose bodies it reads.
use Rattle.books.specs.ProtestBook.{protest_meaning, protest_program}
use Rattle.books.proofs.PartialEvaluation.{evaluates}
use Rattle.books.proofs.ProgramsOfBooks.{given_by_protests, reads_bodies_of_protests}
use Rattle.books.proofs.protest_book.published.protest_chapters_are_evaluated.Goals as goal

pub returns : goal.returns
returns c = λ b. evaluates (protest_meaning b) (protest_program b) (given_by_protests b) (reads_bodies_of_protests b)
