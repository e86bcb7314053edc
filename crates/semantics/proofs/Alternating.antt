-- The least alternating pair of two meanings: that there is one, that there is only one, and what it is within.
use Rattle.std.proofs.Common.{◌≡◌, ℕ, zero, suc, ◌<◌, true, subst}
use Rattle.rulings.specs.Points.{Points, Part}
use Rattle.semantics.specs.Meaning.{Meaning, Lawful}
use Rattle.semantics.specs.Closure.{Closed, IsClosure}
use Rattle.semantics.specs.WellFounded.{Alternates, LeastPair, SureIsPossible}
use Rattle.semantics.proofs.Tests.{false_is_not_true}
use Rattle.semantics.proofs.LeastFixpoint.{iterate, climbs, settles}
use Rattle.semantics.proofs.Closures.{same_points, closure, is_closure, shrinks, closure_inside}

-- S is within every prefixpoint: every set Z that is closed by the one meaning under its closure Q by the other
abbrev pub WithinPrefixpoints : Meaning → Meaning → Points → Type 0
WithinPrefixpoints m w S = (Z Q : Points) → IsClosure w Z Q → Closed m Q Z → Part S Z

-- one closure after the other
abbrev pub two_closures : Meaning → Meaning → Points → Points
two_closures m w x = closure m (closure w x)

-- the least pair, computed
unfoldable pub sure_points : Meaning → Meaning → Points
sure_points m w = iterate (two_closures m w) m.size

unfoldable pub possible_points : Meaning → Meaning → Points
possible_points m w = closure w (sure_points m w)

module _ (m w : Meaning) (l : Lawful m) (v : Lawful w) where
  -- two closures keep a set within the prefixpoints
  pub within_prefixpoints_step : (S P T : Points) → WithinPrefixpoints m w S → IsClosure w S P → IsClosure m P T → WithinPrefixpoints m w T
  within_prefixpoints_step S P T s p t Z Q q c =
      t.least Z (λ a h. c a (l.fewer Z P Q a (shrinks w v S Z P Q (s Z Q q c) p q) h))

  -- a pair that alternates is the least if its sure points are within the prefixpoints
  pub least_pair_of : (S P : Points) → Alternates m w S P → WithinPrefixpoints m w S → LeastPair m w S P
  least_pair_of S P e s =
      record {
        alternates = e;
        extreme = λ S' P' t.
            let p : Part S S' = s S' P' t.possible t.sure.closed in
            (p, shrinks w v S S' P P' p e.possible t.possible);
      }

  pub two_closures_mono : (x z : Points) → Part x z → Part (two_closures m w x) (two_closures m w z)
  two_closures_mono x z p =
      shrinks m l (closure w z) (closure w x) (two_closures m w z) (two_closures m w x)
      (shrinks w v x z (closure w x) (closure w z) p (is_closure w v x) (is_closure w v z))
      (is_closure m l (closure w z)) (is_closure m l (closure w x))

  pub two_closures_inside : (x : Points) (a : ℕ) → two_closures m w x a ≡ true → a < m.size
  two_closures_inside x = closure_inside m l (closure w x) (two_closures m w x) (is_closure m l (closure w x))

  pub turns_within_prefixpoints : (k : ℕ) → WithinPrefixpoints m w (iterate (two_closures m w) k)
  turns_within_prefixpoints zero = λ Z Q q c a h. false_is_not_true h
  turns_within_prefixpoints (suc k) =
      let S : Points = iterate (two_closures m w) k in
      within_prefixpoints_step S (closure w S) (two_closures m w S) (turns_within_prefixpoints k)
      (is_closure w v S) (is_closure m l (closure w S))

  -- as many turns as the book has points come to the least pair
  pub least_pair_exists : LeastPair m w (sure_points m w) (possible_points m w)
  unfolding sure_points possible_points
  least_pair_exists =
      least_pair_of S (closure w S)
      (record { sure = subst (IsClosure m (closure w S)) settled (is_closure m l (closure w S)); possible = is_closure w v S })
      (turns_within_prefixpoints m.size)
    where
      S : Points
      S = sure_points m w

      settled : two_closures m w S ≡ S
      settled =
          same_points (two_closures m w S) S
          (settles m.size (two_closures m w) two_closures_mono two_closures_inside)
          (climbs m.size (two_closures m w) two_closures_mono two_closures_inside m.size)

  -- the sure points of every least pair are within the prefixpoints
  pub least_pair_within : (S P : Points) → LeastPair m w S P → WithinPrefixpoints m w S
  unfolding sure_points
  least_pair_within S P f Z Q q c a h =
      turns_within_prefixpoints m.size Z Q q c a
      ((f.extreme (sure_points m w) (possible_points m w) least_pair_exists.alternates).0 a h)

pub least_pair_unique : (m w : Meaning) (S P S' P' : Points) → LeastPair m w S P → LeastPair m w S' P' → (S ≡ S') × (P ≡ P')
least_pair_unique m w S P S' P' f g =
    let p = f.extreme S' P' g.alternates in
    let q = g.extreme S P f.alternates in
    (same_points S S' p.0 q.0, same_points P P' q.1 p.1)

-- over one meaning the pair alternates the other way round too
pub sure_is_possible : SureIsPossible
sure_is_possible m l S P f = (f.extreme P S (record { sure = f.alternates.possible; possible = f.alternates.sure })).0
