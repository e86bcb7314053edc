-- The rule book is given by the program of its entries.
use Rattle.books.specs.Program.{program_of}
use Rattle.books.specs.RuleBook.{entries, meaning_of}
use Rattle.books.proofs.Programs.{closure_is_least_model, stable_is_stable_model}
use Rattle.books.proofs.ProgramsOfBooks.{given_by_entries}
use Rattle.books.proofs.rule_book.published.stable_rulings_are_stable_models.Goals as goal

pub returns : goal.returns
returns c =
    record {
      closures = λ b y X. closure_is_least_model (meaning_of b) (program_of (entries b)) (given_by_entries b.size (entries b)) y X;
      stable = λ b Y. stable_is_stable_model (meaning_of b) (program_of (entries b)) (given_by_entries b.size (entries b)) Y;
    }
