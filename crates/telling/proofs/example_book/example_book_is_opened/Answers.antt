-- The example's entries fit a book of four points, and a book that was just opened has room for them.
use Rattle.std.proofs.Common.{◌≡◌, ℕ, length, refl, ap, ◌∙◌, inl, inr, arith, Ok, Err}
use Rattle.std.proofs.lemmas.Bool.{cases_lt, lt-ltb, le-ltb}
use Rattle.std.proofs.lemmas.List.{get_or-replicate}
use Rattle.std.proofs.lemmas.Slice.Zip.{AllZip-long}
use Rattle.books.specs.declared.rule_book.RuleBook.{RuleBook}
use Rattle.books.specs.Lines.{Says}
use Rattle.books.specs.Promise.{Outcome}
use Rattle.books.specs.RuleBook.{Opened, Entered}
use Rattle.marker.specs.declared.marker.Marker.{Marker}
use Rattle.telling.specs.Example.{OpensExample, HoldsExample, example_lines}
use Rattle.telling.proofs.Taking.{taken, each_fits}
use Rattle.telling.proofs.example_book.example_book_is_opened.Goals as goal

opened : (m : Marker RuleBook) (r : Outcome) (m' : Marker RuleBook) → OpensExample Opened Entered m r m' → (r ≡ Ok tt) × HoldsExample m'
opened m r m' (Err f, mid, (inl bad, is, same), placed, rest) = absurd (omega arith)
opened m r m' (Err f, mid, (inr bad, is, same), placed, rest) = absurd (omega arith)
opened m r m' (Ok _, mid, (good, sized, none), placed, (es, says, entering)) =
    let fit = each_fits 4 es example_lines says refl in
    let four = AllZip-long Says es example_lines says in
    let (done, size, held) = taken mid es r _ (rw sized fit) (omega (arith, ap length none, four)) entering in (
      done,
      record {
        sized = size ∙ sized;
        written = rw (held, none) says;
        placed = λ a. rw placed (elim (cases_lt a 128) [
          | inl here ↦ rw (lt-ltb a 128 here, get_or-replicate {A = ℕ} 128 a 0 0 here) refl
          | inr past ↦ rw (le-ltb a 128 past) refl
        ]);
      },
    )

pub returns : goal.returns
returns c = opened
