-- The least prefixpoint of a monotone step on sets of points below n, by n turns from the empty set.
use Rattle.std.proofs.Common.{◌≡◌, ℕ, zero, suc, ◌+◌, ◌<◌, ◌≤◌, Bool, true, false, cond, ◌⊎◌, sym, refl, ◌∙◌, subst, inl, inr, le_of_suc-le-suc, not-suc-le-zero, eq-or-lt_of_le, arith}
use Rattle.rulings.specs.Points.{Points, Part}
use Rattle.semantics.specs.Listing.{count_below}
use Rattle.semantics.proofs.Tests.{false_is_not_true}

-- k turns of F, from the empty set
abbrev pub iterate : (Points → Points) → ℕ → Points
iterate F zero a = false
iterate F (suc k) a = F (iterate F k) a

pub count_bound : (n : ℕ) (x : Points) → count_below n x ≤ n
count_bound zero x = omega arith
count_bound (suc n) x = go (x n) (count_bound n x)
  where
    go : (t : Bool) → count_below n x ≤ n → cond t 1 0 + count_below n x ≤ suc n
    go true h = omega arith
    go false h = omega arith

-- every point of x below n is one of y
PartBelow : ℕ → Points → Points → Type 0
PartBelow n x y = (a : ℕ) → a < n → x a ≡ true → y a ≡ true

part_below_suc : (n : ℕ) (x y : Points) → PartBelow n x y → (x n ≡ true → y n ≡ true) → PartBelow (suc n) x y
unfolding PartBelow
part_below_suc n x y h e a l = go (eq-or-lt_of_le (le_of_suc-le-suc l))
  where
    go : (a ≡ n) ⊎ (a < n) → x a ≡ true → y a ≡ true
    go (inl q) = subst (λ (b : ℕ). x b ≡ true → y b ≡ true) (sym q) e
    go (inr q) = h a q

-- a larger set has nothing new below n, or more points there
Grown : ℕ → Points → Points → Type 0
Grown n x y = (PartBelow n y x × (count_below n x ≤ count_below n y)) ⊎ (count_below n x < count_below n y)

grown : (n : ℕ) (x y : Points) → Part x y → Grown n x y
unfolding PartBelow Grown
grown zero x y p = inl (λ a l. absurd (not-suc-le-zero l), omega arith)
grown (suc n) x y p = go (x n) refl (y n) refl (grown n x y p)
  where
    go : (s : Bool) → x n ≡ s → (t : Bool) → y n ≡ t → Grown n x y → Grown (suc n) x y
    go true e true f (inl h) = inl (part_below_suc n y x h.0 (λ _. e), rw (e, f) (omega (arith, h.1)))
    go true e true f (inr h) = inr (rw (e, f) (omega arith))
    go true e false f r = false_is_not_true (sym f ∙ p n e)
    go false e true f (inl h) = inr (rw (e, f) (omega (arith, h.1)))
    go false e true f (inr h) = inr (rw (e, f) (omega arith))
    go false e false f (inl h) = inl (part_below_suc n y x h.0 (λ q. false_is_not_true (sym f ∙ q)), rw (e, f) (omega (arith, h.1)))
    go false e false f (inr h) = inr (rw (e, f) (omega arith))

module _ (n : ℕ) (F : Points → Points) (mono : (x y : Points) → Part x y → Part (F x) (F y))
    (inside : (x : Points) (a : ℕ) → F x a ≡ true → a < n) where
  -- the turns climb
  pub climbs : (k : ℕ) → Part (iterate F k) (iterate F (suc k))
  climbs zero a h = false_is_not_true h
  climbs (suc k) a h = mono (iterate F k) (iterate F (suc k)) (climbs k) a h

  -- after k + 1 turns nothing is new, or there are more than k points
  settled_or_more : (k : ℕ) → Part (iterate F (suc k)) (iterate F k) ⊎ (k < count_below n (iterate F (suc k)))
  unfolding PartBelow Grown
  settled_or_more zero = go (grown n (iterate F 0) (iterate F 1) (climbs 0))
    where
      go : Grown n (iterate F 0) (iterate F 1) → Part (iterate F 1) (iterate F 0) ⊎ (0 < count_below n (iterate F 1))
      go (inl h) = inl (λ a q. h.0 a (inside (iterate F 0) a q) q)
      go (inr h) = inr (omega arith)
  settled_or_more (suc k) = go (settled_or_more k) (grown n (iterate F (suc k)) (iterate F (suc (suc k))) (climbs (suc k)))
    where
      go : Part (iterate F (suc k)) (iterate F k) ⊎ (k < count_below n (iterate F (suc k))) →
          Grown n (iterate F (suc k)) (iterate F (suc (suc k))) →
          Part (iterate F (suc (suc k))) (iterate F (suc k)) ⊎ (suc k < count_below n (iterate F (suc (suc k))))
      go (inl h) r = inl (mono (iterate F (suc k)) (iterate F k) h)
      go (inr h) (inl r) = inl (λ a q. r.0 a (inside (iterate F (suc k)) a q) q)
      go (inr h) (inr r) = inr (omega arith)

  -- n turns reach a prefixpoint
  pub settles : Part (F (iterate F n)) (iterate F n)
  settles = go (settled_or_more n)
    where
      go : Part (iterate F (suc n)) (iterate F n) ⊎ (n < count_below n (iterate F (suc n))) → Part (F (iterate F n)) (iterate F n)
      go (inl h) = h
      go (inr h) = let s = count_bound n (iterate F (suc n)) in absurd (omega arith)

  -- and every turn stays within every prefixpoint
  pub within_prefixpoint : (Z : Points) → Part (F Z) Z → (k : ℕ) → Part (iterate F k) Z
  within_prefixpoint Z c zero a h = false_is_not_true h
  within_prefixpoint Z c (suc k) a h = c a (mono (iterate F k) Z (within_prefixpoint Z c k) a h)
