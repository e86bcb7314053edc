-- No point has a row.
use Rattle.std.proofs.Common.{refl, None}
use Rattle.books.proofs.Rows.{none_row}
use Rattle.books.proofs.protesters.Protesters.new.Goals as goal

pub returns-clause-lodged : goal.returns-clause-lodged
returns-clause-lodged c = λ a. rw (none_row 128 a None) refl

pub returns-clause-protesters : goal.returns-clause-protesters
returns-clause-protesters c = λ a d. rw (none_row 128 a None) refl
