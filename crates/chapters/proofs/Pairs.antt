-- The least pair of two meanings, by the sets that the two closures one after the other lead to.
use Rattle.std.proofs.Common.{◌≡◌, ap, ◌∙◌, subst}
use Rattle.rulings.specs.Points.{Points, Part}
use Rattle.semantics.specs.Meaning.{Meaning, Lawful}
use Rattle.semantics.specs.Closure.{IsClosure}
use Rattle.semantics.specs.WellFounded.{LeastPair}
use Rattle.semantics.proofs.Closures.{same_points, closure, is_closure, unique, shrinks}
use Rattle.semantics.proofs.Alternating.{two_closures, two_closures_mono}
use Rattle.chapters.specs.Climbing.{LeastPrefixpoint}

module _ (m w : Meaning) (l : Lawful m) (v : Lawful w) where
  -- two closures, as they were found, are the two closures
  pub twice : (s p t : Points) → IsClosure w s p → IsClosure m p t → t ≡ two_closures m w s
  twice s p t c d =
      unique m p t (closure m p) d (is_closure m l p) ∙ ap (closure m) (unique w s p (closure w s) c (is_closure w v s))

  pub least_pair : (s p : Points) → LeastPrefixpoint (two_closures m w) s → IsClosure w s p → LeastPair m w s p
  least_pair s p f c =
      record {
        alternates = record { sure = subst (IsClosure m p) same (is_closure m l p); possible = c };
        extreme = λ S' P' t.
            let part : Part s S' = f.least S' (subst (λ (z : Points). Part z S') (twice S' P' S' t.possible t.sure) (λ a h. h)) in
            (part, shrinks w v s S' p P' part c t.possible);
      }
    where
      F : Points → Points
      F = two_closures m w

      fixed : F s ≡ s
      fixed = same_points (F s) s f.closed (f.least (F s) (two_closures_mono m w l v (F s) s f.closed))

      same : closure m p ≡ s
      same = twice s p (closure m p) c (is_closure m l p) ∙ fixed
