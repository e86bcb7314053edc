-- Entries taken out leave the book's own facts standing.
use Rattle.std.proofs.Common.{◌≡◌, ℕ, true, Bool, List, ◌<◌, ◌≤◌, length, ap, arith}
use Rattle.std.specs.List.{filter}
use Rattle.std.proofs.lemmas.List.Elements.{All-filter, All-same}
use Rattle.std.proofs.lemmas.List.Sums.{length-filter, count_by-le-length}
use Rattle.books.specs.declared.entry.Entry.{Entry}
use Rattle.books.specs.Entries.{standing, names}
use Rattle.books.proofs.rule_book.as_book.RuleBookBook.withdraw.Goals as goal

no_longer : {X : Type 0} (p : X → Bool) (xs ys : List X) → ys ≡ filter p xs → length ys ≤ length xs
no_longer p xs ys e = omega (arith, ap length e, length-filter p xs, count_by-le-length p xs)

pub invariant_of-self-clause-room : goal.invariant_of-self-clause-room
invariant_of-self-clause-room c =
    let b = c.args.self.now in
    omega (arith, no_longer _ (standing b.table) _ c.remove.ensures, b.room)

pub invariant_of-self-clause-heads : goal.invariant_of-self-clause-heads
invariant_of-self-clause-heads c =
    let b = c.args.self.now in
    let inside = λ (e : Entry). e.point < b.size in
    All-same inside _ _ c.remove.ensures (All-filter _ inside _ b.heads)

pub invariant_of-self-clause-bodies : goal.invariant_of-self-clause-bodies
invariant_of-self-clause-bodies c =
    let b = c.args.self.now in
    let inside = λ (e : Entry). (d : ℕ) → names e d ≡ true → d < b.size in
    All-same inside _ _ c.remove.ensures (All-filter _ inside _ b.bodies)
