use Rattle.std.proofs.Common.{rules, ◌≡◌, ℕ, ◌+◌, ◌<◌, ◌∷◌, List, drop, length, get_or, refl, sym, ap, ◌∙◌, arith}
use Rattle.std.proofs.lemmas.List.{drop_more, drop_all}
use Rattle.marker.specs.State.{book_of}
use Rattle.telling.proofs.example_book.enter_each.Goals as goal

next : {A : Type 0} (xs : List A) (i : ℕ) (x : A) → i < length xs → x ≡ get_or xs i x → drop i xs ≡ x ∷ drop (i + 1) xs
next xs i x h is = drop_more xs i x h ∙ ap (λ y. y ∷ drop (i + 1) xs) (sym is)

pub loop-entry-init : goal.loop-entry-init
loop-entry-init g c = record { rest = λ r b h. h; chapters = refl }

pub returns-in_err-enter-clause-book : goal.returns-in_err-enter-clause-book
returns-in_err-enter-clause-book g c =
    c.loop-entry.invariant.rest _ _
    (rw (next c.args.entries.now c.loop-entry.entry-index c.entry-item.result c.loop-entry-test.true c.entry-item.is)
    (c.enter.result, book_of c.enter.new.marker, c.enter.ensures.book, rw c.in_err-enter.was (search rules, refl)))

pub returns-in_err-enter-clause-chapters : goal.returns-in_err-enter-clause-chapters
returns-in_err-enter-clause-chapters g c = c.enter.ensures.chapters ∙ c.loop-entry.invariant.chapters

pub loop-entry-preserved : goal.loop-entry-preserved
loop-entry-preserved g c = record {
  rest = λ r b h. c.loop-entry.invariant.rest r b
      (rw (next c.args.entries.now c.loop-entry.entry-index c.entry-item.result c.loop-entry-test.true c.entry-item.is)
      (c.enter.result, book_of c.enter.new.marker, c.enter.ensures.book, rw c.in_ok-enter.was h));
  chapters = c.enter.ensures.chapters ∙ c.loop-entry.invariant.chapters;
}

pub returns-clause-book : goal.returns-clause-book
returns-clause-book g c = c.loop-entry.invariant.rest _ _ (rw (drop_all c.loop-entry.entry-index c.args.entries.now (omega arith)) (refl, refl))

pub returns-clause-chapters : goal.returns-clause-chapters
returns-clause-chapters g c = c.loop-entry.invariant.chapters
