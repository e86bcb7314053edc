use Rattle.std.proofs.Common.{◌≡◌, Bool, true, ◌↔◌, sym, refl, ap, ◌∙◌, subst}
use Rattle.std.specs.Cmp.Lexicographic.{slice_cmp, lists_agrees}
use Rattle.std.specs.Ordering.{is_lt, nat_cmp, is_some_and}
use Rattle.rulings.specs.Order.{Precedes}
use Rattle.rulings.proofs.Orders.{lt_is_less}
use Rattle.rulings.proofs.RowOrder.{by_bytes}
use Rattle.rulings.proofs.ruling.Ruling.precedes.Goals as goal

pub returns : goal.returns
returns c =
    let r = c.args.self in
    let s = c.args.other in
    let answer : c.lt.result ≡ is_lt (slice_cmp nat_cmp r.bytes s.bytes) = c.lt.ensures ∙ ap (is_some_and is_lt) (lists_agrees (λ _ _. refl) r.bytes s.bytes) in
    subst (λ (t : Bool). (t ≡ true) ↔ Precedes r s) (sym answer) (lt_is_less by_bytes r s)
