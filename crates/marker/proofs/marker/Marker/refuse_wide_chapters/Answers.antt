use Rattle.std.proofs.Common.{◌<◌, ◌≤◌, Some, None, arith, rules}
use Rattle.std.proofs.lemmas.Iterator.{first_from_Range}
use Rattle.semantics.specs.Listing.{width}
use Rattle.marker.specs.State.{book_of, placing}
use Rattle.marker.proofs.marker.Marker.refuse_wide_chapters.Goals as goal

pub returns-in-Some-clause-err : goal.returns-in-Some-clause-err
returns-in-Some-clause-err g c =
    let s = c.args.self.now in
    let wide = width (g.B.Book.meaning (book_of s)) (placing s) in
    let (low, few, is, below) = first_from_Range _ _ _ (Some c.in-Some.number) (λ k. 12 < wide k) (λ k. wide k ≤ 12) c.in-Some.ensures.ran (λ k q h. search rules) (λ k q h. (search rules, search rules)) in
    (c.in-Some.number, c.new.ensures, few, is, λ j h. below j (omega arith) h)

pub returns-in-None-clause-ok : goal.returns-in-None-clause-ok
returns-in-None-clause-ok g c =
    let s = c.args.self.now in
    let wide = width (g.B.Book.meaning (book_of s)) (placing s) in
    let none = first_from_Range _ _ _ None (λ k. 12 < wide k) (λ k. wide k ≤ 12) c.in-None.ensures.ran (λ k q h. search rules) (λ k q h. (search rules, search rules)) in
    λ k h. none k (omega arith) h
