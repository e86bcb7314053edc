-- The subsets of a set of points, numbered by their binary digits.
use Rattle.std.proofs.Common.{◌≡◌, ℕ, zero, suc, ◌^◌, ◌<◌, Bool, true, false, cond, ◌&&◌, ◌||◌, ◌⊎◌, sym, refl, ap, ◌∙◌, subst, inl, inr, lt_of_lt_of_le, le_of_suc-le-suc, eq-or-lt_of_le, arith, pow_mono}
use mathlib.Core.Path.{fun_ext}
use lib.Bits.{bit_or}
use lib.Pow.{pow-lt}
use Rattle.std.proofs.lemmas.Nat.{or_lt}
use Rattle.std.proofs.lemmas.Bool.{eq-eqb, ne_eqb, false_from_ne_true}
use Rattle.rulings.specs.Points.{Points, Part}
use Rattle.rulings.specs.Rulings.{digit}
use Rattle.rulings.proofs.Digits.{digit_or, digit_power, digit_past, same_digits}
use Rattle.semantics.specs.Listing.{count_below}
use Rattle.semantics.specs.Walk.{spread, SubsetsNumbered}
use Rattle.semantics.proofs.Tests.{false_is_not_true}

module _ (D : Points) where
  pub count_yes : (n : ℕ) → D n ≡ true → count_below (suc n) D ≡ suc (count_below n D)
  count_yes n e = rw e (omega arith)

  pub count_no : (n : ℕ) → D n ≡ false → count_below (suc n) D ≡ count_below n D
  count_no n e = rw e (omega arith)

  -- a point has fewer points below it than there are
  pub place_below : (n a : ℕ) → a < n → D a ≡ true → count_below a D < count_below n D
  place_below zero a h d = absurd (omega arith)
  place_below (suc n) a h d = go (D n) refl (eq-or-lt_of_le (le_of_suc-le-suc h)) (λ l. place_below n a l d)
    where
      go : (t : Bool) → D n ≡ t → (a ≡ n) ⊎ (a < n) → (a < n → count_below a D < count_below n D) → count_below a D < count_below (suc n) D
      go true e (inl q) ih = omega (arith, count_yes n e, ap (λ (b : ℕ). count_below b D) q)
      go true e (inr l) ih = omega (arith, count_yes n e, ih l)
      go false e (inl q) ih = false_is_not_true (sym e ∙ subst (λ (b : ℕ). D b ≡ true) q d)
      go false e (inr l) ih = omega (arith, count_no n e, ih l)

  -- every number below the count is the place of a point
  pub point_at : (n k : ℕ) → k < count_below n D → (a : ℕ) × (a < n) × (D a ≡ true) × (count_below a D ≡ k)
  point_at zero k h = absurd (omega arith)
  point_at (suc n) k h = go (D n) refl (λ l. point_at n k l)
    where
      At : ℕ → Type 0
      At b = (a : ℕ) × (a < b) × (D a ≡ true) × (count_below a D ≡ k)

      up : At n → At (suc n)
      up (a, l, d, e) = (a, omega arith, d, e)

      here : D n ≡ true → (k ≡ count_below n D) ⊎ (k < count_below n D) → (k < count_below n D → At n) → At (suc n)
      here e (inl q) ih = (n, omega arith, e, sym q)
      here e (inr l) ih = up (ih l)

      go : (t : Bool) → D n ≡ t → (k < count_below n D → At n) → At (suc n)
      go true e ih = here e (eq-or-lt_of_le (let c = count_yes n e in omega arith)) ih
      go false e ih = up (ih (let c = count_no n e in omega arith))

  -- the number of a subset, by its points below n
  pub number_of : ℕ → Points → ℕ
  number_of zero x = 0
  number_of (suc n) x = cond (D n && x n) (bit_or (2 ^ count_below n D) (number_of n x)) (number_of n x)

  pub number_below : (n : ℕ) (x : Points) → number_of n x < 2 ^ count_below n D
  unfolding number_of
  number_below zero x = omega arith
  number_below (suc n) x = go (D n) refl (x n) (number_below n x)
    where
      w : ℕ
      w = count_below n D

      go : (t : Bool) → D n ≡ t → (s : Bool) → number_of n x < 2 ^ w →
          cond (t && s) (bit_or (2 ^ w) (number_of n x)) (number_of n x) < 2 ^ count_below (suc n) D
      go true e true h = rw (count_yes n e) (or_lt (suc w) (2 ^ w) (number_of n x) (pow-lt {i = w} {j = suc w} (omega arith)) (lt_of_lt_of_le h (pow_mono {i = w} {j = suc w} (omega arith))))
      go true e false h = rw (count_yes n e) (lt_of_lt_of_le h (pow_mono {i = w} {j = suc w} (omega arith)))
      go false e s h = rw (count_no n e) h

  -- its digit at the place of a point tells whether the point is in it
  pub number_digit : (n : ℕ) (x : Points) (a : ℕ) → a < n → D a ≡ true → digit (number_of n x) (count_below a D) ≡ x a
  unfolding number_of
  number_digit zero x a h d = absurd (omega arith)
  number_digit (suc n) x a h d = go (D n) refl (x n) refl (eq-or-lt_of_le (le_of_suc-le-suc h)) (λ l. number_digit n x a l d)
    where
      w : ℕ
      w = count_below n D

      g : ℕ
      g = number_of n x

      j : ℕ
      j = count_below a D

      go : (t : Bool) → D n ≡ t → (s : Bool) → x n ≡ s → (a ≡ n) ⊎ (a < n) → (a < n → digit g j ≡ x a) →
          digit (cond (t && s) (bit_or (2 ^ w) g) g) j ≡ x a
      go true e true f (inl q) ih =
          digit_or (2 ^ w) g j ∙ (ap (λ (b : Bool). b || digit g j) (digit_power w j ∙ eq-eqb w j (ap (λ (b : ℕ). count_below b D) (sym q)))
          ∙ (sym f ∙ ap x (sym q)))
      go true e true f (inr l) ih =
          digit_or (2 ^ w) g j ∙ (ap (λ (b : Bool). b || digit g j) (digit_power w j ∙ ne_eqb w j (λ q. let p = place_below n a l d in omega arith)) ∙ ih l)
      go true e false f (inl q) ih =
          digit_past w g j (number_below n x) (let c = ap (λ (b : ℕ). count_below b D) q in omega arith) ∙ (sym f ∙ ap x (sym q))
      go true e false f (inr l) ih = ih l
      go false e s f (inl q) ih = false_is_not_true (sym e ∙ subst (λ (b : ℕ). D b ≡ true) q d)
      go false e s f (inr l) ih = ih l

-- a subset has only points of the set
pub spread_part : (D : Points) (c : ℕ) → Part (spread D c) D
unfolding spread
spread_part D c a h = go (D a) h
  where
    go : (t : Bool) → t && digit c (count_below a D) ≡ true → t ≡ true
    go true e = refl
    go false e = e

-- at a point of the set, it is the digit at the point's place
pub spread_at : (D : Points) (c a : ℕ) → D a ≡ true → spread D c a ≡ digit c (count_below a D)
unfolding spread
spread_at D c a e = ap (λ (t : Bool). t && digit c (count_below a D)) e

pub spread_off : (D : Points) (c a : ℕ) → D a ≡ false → spread D c a ≡ false
unfolding spread
spread_off D c a e = ap (λ (t : Bool). t && digit c (count_below a D)) e

module _ (n : ℕ) (D : Points) (inside : (a : ℕ) → D a ≡ true → a < n) where
  -- every subset has its number
  pub spread_number : (x : Points) → Part x D → spread D (number_of D n x) ≡ x
  spread_number x p = fun_ext (λ a. go a (D a) refl)
    where
      go : (a : ℕ) (t : Bool) → D a ≡ t → spread D (number_of D n x) a ≡ x a
      go a true e = spread_at D (number_of D n x) a e ∙ number_digit D n x a (inside a e) e
      go a false e = spread_off D (number_of D n x) a e ∙ sym (false_from_ne_true (x a) (λ h. absurd (false_is_not_true (sym e ∙ p a h))))

  -- two numbers of one subset are equal
  pub spread_once : (c d : ℕ) → c < 2 ^ count_below n D → d < 2 ^ count_below n D → spread D c ≡ spread D d → c ≡ d
  spread_once c d h k e = same_digits (count_below n D) c d h k (λ j l. same j (point_at D n j l))
    where
      same : (j : ℕ) → (a : ℕ) × (a < n) × (D a ≡ true) × (count_below a D ≡ j) → digit c j ≡ digit d j
      same j (a, l, q, is) =
          subst (λ (i : ℕ). digit c i ≡ digit d i) is
          (sym (spread_at D c a q) ∙ (ap (λ (x : Points). x a) e ∙ spread_at D d a q))

pub subsets_numbered : SubsetsNumbered
subsets_numbered n D inside =
    (λ x p. (number_of D n x, number_below D n x, spread_number n D inside x p), spread_once n D inside)
