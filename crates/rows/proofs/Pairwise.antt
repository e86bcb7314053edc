-- Lists whose elements stand pairwise in a relation, each to all later ones.
use Rattle.std.proofs.Common.{zero, suc, List, [], ◌∷◌, ◌++◌, arith}
use Rattle.std.specs.List.{AllByRecursion, AllPairs}
use Rattle.std.proofs.ByRecursion.{All-get_or, All-from_get_or}

module _ {A : Type 0} (R : A → A → Type 0) where
  -- each element stands to all later ones in R, element by element
  abbrev pub Pairwise : List A → Type 0
  Pairwise [] = Unit {0}
  Pairwise (x ∷ xs) = AllByRecursion (R x) xs × Pairwise xs

  pub from_places : (xs : List A) → AllPairs R xs → Pairwise xs
  from_places [] p = tt
  from_places (x ∷ xs) p =
      (All-from_get_or (R x) xs x (λ i h. p zero (suc i) x (omega arith) (omega arith)), from_places xs (λ i j d h k. p (suc i) (suc j) d (omega arith) (omega arith)))

  pub to_places : (xs : List A) → Pairwise xs → AllPairs R xs
  to_places [] p i j d h k = absurd (omega arith)
  to_places (x ∷ xs) p zero zero d h k = absurd (omega arith)
  to_places (x ∷ xs) p zero (suc j) d h k = All-get_or (R x) xs j d (omega arith) p.0
  to_places (x ∷ xs) p (suc i) zero d h k = absurd (omega arith)
  to_places (x ∷ xs) p (suc i) (suc j) d h k = to_places xs p.1 i j d (omega arith) (omega arith)

  -- a row that all before it stand to in R, and that stands to all behind it
  pub pairwise_put : (front back : List A) (row : A)
      → Pairwise (front ++ back) → AllByRecursion (λ x. R x row) front → AllByRecursion (R row) back → Pairwise (front ++ row ∷ back)
  pairwise_put [] back row p f b = (b, p)
  pairwise_put (x ∷ front) back row p f b = (all_put front p.0, pairwise_put front back row p.1 f.1 b)
    where
      all_put : (ys : List A) → AllByRecursion (R x) (ys ++ back) → AllByRecursion (R x) (ys ++ row ∷ back)
      all_put [] a = (f.0, a)
      all_put (y ∷ ys) a = (a.0, all_put ys a.1)
