-- The strict order of a lawful comparison is strict and total.
use Rattle.std.proofs.Common.{ℕ, ◌<◌, arith, sym, ◌≡◌, ◌⊎◌, ◌↔◌, true, refl, ap, subst, ◌∙◌, inl, inr}
use Rattle.std.specs.Cmp.{IsTotalOrder, tied_itself, ranks, nat_cmp_total}
use Rattle.std.specs.Ordering.{ordering_reverse, ordering_then, is_lt, nat_cmp, MatchOrdering}
use Rattle.std.specs.declared.cmp.Ordering.{Ordering}
use Rattle.std.specs.declared.cmp.Ordering.TheVariants.{Less, Equal, Greater}
use Rattle.rulings.specs.Order.{StrictTotal, IsOrderOf}

module _ {A : Type 0} {cmp : A → A → Ordering} {before : A → A → Type 0} (lawful : IsTotalOrder cmp) (order : IsOrderOf cmp before) where
  irreflexive : (a : A) → before a a → ⊥
  irreflexive a h = let less = (order.less a a).1 h in let tied = tied_itself lawful a in cc

  transitive : (a b c : A) → before a b → before b c → before a c
  transitive a b c h k = (order.less a c).0 (lawful.trans a b c ((order.less a b).1 h) ((order.less b c).1 k))

  total : (a b : A) → before a b ⊎ (a ≡ b) ⊎ before b a
  total a b = by (cmp a b) refl
    where
      by : (o : Ordering) → cmp a b ≡ o → before a b ⊎ (a ≡ b) ⊎ before b a
      by Less e = inl ((order.less a b).0 e)
      by Equal e = inr (inl (order.same a b e))
      by Greater e = inr (inr ((order.less b a).0 (lawful.antisymm b a ∙ ap ordering_reverse e)))

  pub strict_total : StrictTotal before
  strict_total = record { irreflexive = irreflexive; transitive = transitive; total = total }

-- what `<` answers
pub lt_is_less : {A : Type 0} {cmp : A → A → Ordering} {before : A → A → Type 0} → IsOrderOf cmp before → (a b : A) → (is_lt (cmp a b) ≡ true) ↔ before a b
lt_is_less {cmp = cmp} order a b = (λ e. (order.less a b).0 (less_if_lt (cmp a b) e), λ h. ap is_lt ((order.less a b).1 h))
  where
    less_if_lt : (o : Ordering) → is_lt o ≡ true → o ≡ Less
    less_if_lt Less e = refl
    less_if_lt Equal e = cc
    less_if_lt Greater e = cc

-- a comparison that says in each case what holds is the comparison of that order
module _ {A : Type 0} (cmp : A → A → Ordering) (before : A → A → Type 0) (not_both : (a b : A) → before a b → before b a → ⊥)
    (says : (a b : A) → MatchOrdering (cmp a b) (before a b) (a ≡ b) (before b a)) where
  pub order_from : IsOrderOf cmp before
  order_from = record { less = λ a b. by_case a b (cmp a b) (says a b); same = λ a b. by_tie a b (cmp a b) (says a b) }
    where
      by_case : (a b : A) (o : Ordering) → MatchOrdering o (before a b) (a ≡ b) (before b a) → (o ≡ Less) ↔ before a b
      by_case a b Less h = (λ _. h, λ _. refl)
      by_case a b Equal h = (λ e. cc, λ l. let m = subst (λ (c : A). before a c) (sym h) l in absurd (not_both a a m m))
      by_case a b Greater h = (λ e. cc, λ l. absurd (not_both a b l h))

      by_tie : (a b : A) (o : Ordering) → MatchOrdering o (before a b) (a ≡ b) (before b a) → o ≡ Equal → a ≡ b
      by_tie a b Less h e = cc
      by_tie a b Equal h e = h
      by_tie a b Greater h e = cc

-- comparing numbers
pub nat_order : IsOrderOf nat_cmp (λ (x y : ℕ). x < y)
nat_order = order_from nat_cmp (λ x y. x < y) (λ x y h l. omega arith) ranks

pub nat_ties : (x y : ℕ) → x ≡ y → nat_cmp x y ≡ Equal
nat_ties x y e = ap (nat_cmp x) (sym e) ∙ tied_itself nat_cmp_total x

-- comparing by one and then by another
pub then_less : (o p : Ordering) → ordering_then o p ≡ Less → (o ≡ Less) ⊎ ((o ≡ Equal) × (p ≡ Less))
then_less Less p e = inl refl
then_less Equal p e = inr (refl, e)
then_less Greater p e = cc

pub then_equal : (o p : Ordering) → ordering_then o p ≡ Equal → (o ≡ Equal) × (p ≡ Equal)
then_equal Less p e = absurd (cc)
then_equal Equal p e = (refl, e)
then_equal Greater p e = absurd (cc)
