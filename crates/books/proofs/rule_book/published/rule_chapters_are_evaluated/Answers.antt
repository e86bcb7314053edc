-- The rule book is given by the program of its entries, whose bodies it reads.
use Rattle.books.specs.Program.{program_of}
use Rattle.books.specs.RuleBook.{entries, meaning_of}
use Rattle.books.proofs.PartialEvaluation.{evaluates}
use Rattle.books.proofs.EvaluatedEntries.{evaluates_to_entries}
use Rattle.books.proofs.ProgramsOfBooks.{given_by_entries, reads_bodies_of_entries}
use Rattle.books.proofs.rule_book.published.rule_chapters_are_evaluated.Goals as goal

pub returns-clause-program : goal.returns-clause-program
returns-clause-program c = λ b. evaluates (meaning_of b) (program_of (entries b)) (given_by_entries b.size (entries b)) (reads_bodies_of_entries b.size (entries b))

pub returns-clause-entries : goal.returns-clause-entries
returns-clause-entries c = evaluates_to_entries
