-- The order of an audit's rows is that of comparing them, so it is strict and total.
use Rattle.std.specs.Prelude.{◌≡◌}
use Rattle.std.proofs.Common.{sym, ap, ◌∙◌, inl, inr}
use Rattle.std.specs.Cmp.{IsTotalOrder}
use Rattle.std.specs.Ordering.{nat_cmp, ordering_then}
use Rattle.std.specs.declared.cmp.Ordering.TheVariants.{Less, Equal}
use Rattle.std.proofs.lemmas.Cmp.{on_total, then_total, back_total, nat_cmp_total}
use Rattle.rulings.specs.Order.{StrictTotal, IsOrderOf}
use Rattle.rulings.proofs.Orders.{strict_total, nat_order, nat_ties, then_less, then_equal}
use Rattle.answers.specs.declared.audit.UpwardReading.{UpwardReading}
use Rattle.answers.specs.AuditRows.{AuditedBefore, audit_cmp}

-- a row is its three numbers
same_row : (r s : UpwardReading) → s.drop ≡ r.drop → r.reader ≡ s.reader → r.read ≡ s.read → r ≡ s
same_row r s d a b = λ i. record { drop = sym d i; reader = a i; read = b i }

-- a row that compares as Less goes before
less_is : (r s : UpwardReading) → audit_cmp r s ≡ Less → AuditedBefore r s
less_is r s e =
    elim (then_less (ordering_then (nat_cmp s.drop r.drop) (nat_cmp r.reader s.reader)) (nat_cmp r.read s.read) e) [
      | inl ahead ↦ elim (then_less (nat_cmp s.drop r.drop) (nat_cmp r.reader s.reader) ahead) [
        | inl d ↦ inl ((nat_order.less s.drop r.drop).0 d)
        | inr (d, a) ↦ inr (sym (nat_order.same s.drop r.drop d), inl ((nat_order.less r.reader s.reader).0 a))
      ]
      | inr (tied, b) ↦
          let both = then_equal _ _ tied in
          inr (sym (nat_order.same s.drop r.drop both.0), inr (nat_order.same r.reader s.reader both.1, (nat_order.less r.read s.read).0 b))
    ]

-- a row that goes before compares as Less
is_less : (r s : UpwardReading) → AuditedBefore r s → audit_cmp r s ≡ Less
is_less r s (inl h) =
    ap (λ o. ordering_then (ordering_then o (nat_cmp r.reader s.reader)) (nat_cmp r.read s.read)) ((nat_order.less s.drop r.drop).1 h)
is_less r s (inr (d, inl h)) =
    ap (λ o. ordering_then (ordering_then o (nat_cmp r.reader s.reader)) (nat_cmp r.read s.read)) (nat_ties s.drop r.drop (sym d))
    ∙ ap (λ o. ordering_then o (nat_cmp r.read s.read)) ((nat_order.less r.reader s.reader).1 h)
is_less r s (inr (d, inr (a, h))) =
    ap (λ o. ordering_then (ordering_then o (nat_cmp r.reader s.reader)) (nat_cmp r.read s.read)) (nat_ties s.drop r.drop (sym d))
    ∙ ap (λ o. ordering_then o (nat_cmp r.read s.read)) (nat_ties r.reader s.reader a)
    ∙ (nat_order.less r.read s.read).1 h

-- rows that compare as Equal are the same
same : (r s : UpwardReading) → audit_cmp r s ≡ Equal → r ≡ s
same r s e =
    let outer = then_equal _ _ e in
    let inner = then_equal _ _ outer.0 in
    same_row r s (nat_order.same s.drop r.drop inner.0) (nat_order.same r.reader s.reader inner.1) (nat_order.same r.read s.read outer.1)

-- so comparing rows goes by the order in which they stand
pub audit_ordered : IsOrderOf audit_cmp AuditedBefore
audit_ordered = record { less = λ r s. (less_is r s, is_less r s); same = same }

-- comparing rows is a total order
pub audit_total : IsTotalOrder audit_cmp
audit_total =
    then_total (then_total (back_total (on_total (λ (r : UpwardReading). r.drop) nat_cmp_total)) (on_total (λ (r : UpwardReading). r.reader) nat_cmp_total))
    (on_total (λ (r : UpwardReading). r.read) nat_cmp_total)

-- and so the order in which they stand is strict and total
pub audit_order : StrictTotal AuditedBefore
audit_order = strict_total audit_total audit_ordered
