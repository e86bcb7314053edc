-- The row order: what comparing the bytes in turn says, and that the order is strict and total.
use Rattle.std.proofs.Common.{◌≡◌, ℕ, zero, suc, ◌<◌, List, [], ◌∷◌, length, get_or, refl, sym, ap₂, ◌∙◌, inl, inr, arith}
use Rattle.std.specs.Cmp.{ranks}
use Rattle.std.specs.Cmp.Lexicographic.{slice_cmp}
use Rattle.std.specs.declared.cmp.Ordering.{Ordering}
use Rattle.std.specs.declared.cmp.Ordering.TheVariants.{Less, Equal, Greater}
use Rattle.std.specs.Ordering.{MatchOrdering, nat_cmp, ordering_then, on}
use Rattle.std.proofs.lemmas.Bool.{cases_order}
use Rattle.std.proofs.lemmas.Cmp.{on_total, nat_list_cmp_total}
use Rattle.rulings.specs.Order.{Precedes, StrictTotal, IsOrderOf}
use Rattle.rulings.specs.declared.ruling.Ruling.{Ruling}
use Rattle.rulings.proofs.Bytes.{same_list}
use Rattle.rulings.proofs.Orders.{strict_total, order_from}

-- at the first place where they differ, the number in the one list is the smaller
record Smaller (xs ys : List ℕ) : Type 0 where
  pub place : ℕ
  pub same_before : (i : ℕ) → i < place → get_or xs i 0 ≡ get_or ys i 0
  pub smaller : get_or xs place 0 < get_or ys place 0

abbrev Compared : Ordering → List ℕ → List ℕ → Type 0
Compared o xs ys = MatchOrdering o (Smaller xs ys) (xs ≡ ys) (Smaller ys xs)

smaller_here : (x y : ℕ) (xs ys : List ℕ) → x < y → Smaller (x ∷ xs) (y ∷ ys)
smaller_here x y xs ys h = record { place = 0; same_before = λ i l. absurd (omega arith); smaller = h }

smaller_later : (x y : ℕ) (xs ys : List ℕ) → x ≡ y → Smaller xs ys → Smaller (x ∷ xs) (y ∷ ys)
smaller_later x y xs ys e s = record { place = suc s.place; same_before = before; smaller = s.smaller }
  where
    before : (i : ℕ) → i < suc s.place → get_or (x ∷ xs) i 0 ≡ get_or (y ∷ ys) i 0
    before zero l = e
    before (suc i) l = s.same_before i (omega arith)

compared_more : (x y : ℕ) (xs ys : List ℕ) (o rest : Ordering) → MatchOrdering o (x < y) (x ≡ y) (y < x) → Compared rest xs ys →
    Compared (ordering_then o rest) (x ∷ xs) (y ∷ ys)
compared_more x y xs ys Less rest h k = smaller_here x y xs ys h
compared_more x y xs ys Greater rest h k = smaller_here y x ys xs h
compared_more x y xs ys Equal Less h k = smaller_later x y xs ys h k
compared_more x y xs ys Equal Equal h k = ap₂ ◌∷◌ h k
compared_more x y xs ys Equal Greater h k = smaller_later y x ys xs (sym h) k

compared : (xs ys : List ℕ) → length xs ≡ length ys → Compared (slice_cmp nat_cmp xs ys) xs ys
compared [] [] e = refl
compared [] (y ∷ ys) e = absurd (omega arith)
compared (x ∷ xs) [] e = absurd (omega arith)
compared (x ∷ xs) (y ∷ ys) e = compared_more x y xs ys (nat_cmp x y) (slice_cmp nat_cmp xs ys) (ranks x y) (compared xs ys (omega arith))

asymmetric : (r s : Ruling) → Precedes r s → Precedes s r → ⊥
asymmetric r s p q =
    elim (cases_order p.place q.place) [
      | inl e ↦ omega (arith, p.smaller, rw (← e) at q.smaller)
      | inr (inl h) ↦ omega (arith, p.smaller, q.same_before p.place h)
      | inr (inr h) ↦ omega (arith, q.smaller, p.same_before q.place h)
    ]

precedes_from : (r s : Ruling) → Smaller r.bytes s.bytes → Precedes r s
precedes_from r s k = record { place = k.place; same_before = k.same_before; smaller = k.smaller }

row_says : (r s : Ruling) (o : Ordering) → Compared o r.bytes s.bytes → MatchOrdering o (Precedes r s) (r ≡ s) (Precedes s r)
row_says r s Less k = precedes_from r s k
row_says r s Equal k = same_list r s k
row_says r s Greater k = precedes_from s r k

-- the row order is that of comparing the bytes
pub by_bytes : IsOrderOf (on (λ (r : Ruling). r.bytes) (slice_cmp nat_cmp)) Precedes
by_bytes = order_from _ _ asymmetric (λ r s. row_says r s _ (compared r.bytes s.bytes (r.long ∙ sym s.long)))

pub row_order : StrictTotal Precedes
row_order = strict_total (on_total (λ (r : Ruling). r.bytes) nat_list_cmp_total) by_bytes
