-- The rule book is given by the program of its entries.
use Rattle.books.specs.Program.{program_of}
use Rattle.books.specs.RuleBook.{entries, meaning_of}
use Rattle.books.proofs.Programs.{well_founded_is_least_precise}
use Rattle.books.proofs.ProgramsOfBooks.{given_by_entries}
use Rattle.books.proofs.rule_book.published.well_founded_models_are_least_precise.Goals as goal

pub returns : goal.returns
returns c = λ b S P. well_founded_is_least_precise (meaning_of b) (program_of (entries b)) (given_by_entries b.size (entries b)) S P
