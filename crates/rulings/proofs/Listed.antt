-- The set of the points in a list, one point more at a time.
use Rattle.std.proofs.Common.{◌≡◌, ℕ, ◌+◌, ◌<◌, ◌≤◌, Bool, ◌&&◌, ◌||◌, eqb, ltb, List, [], ◌∷◌, ◌++◌, length, get_or, take, sym, ap, ◌∙◌}
use Rattle.std.proofs.Math.Bool.{or-false, or_assoc, and-or_distrib_right}
use Rattle.std.proofs.lemmas.List.{take_more, take_all}
use Rattle.rulings.specs.Points.{Points, listed}

listed_push : (xs : List ℕ) (x a : ℕ) → listed (xs ++ x ∷ []) a ≡ listed xs a || eqb a x
listed_push [] x a = or-false (eqb a x)
listed_push (y ∷ ys) x a = ap (λ (t : Bool). eqb a y || t) (listed_push ys x a) ∙ sym (or_assoc (eqb a y) (listed ys a) (eqb a x))

-- a set that holds the first i points of a list, those below 128, takes in the next
module _ (xs : List ℕ) (i : ℕ) (l : i < length xs) (z z' : Points) where
  pub listed_more : ((a : ℕ) → z a ≡ listed (take i xs) a && ltb a 128) → ((a : ℕ) → z' a ≡ z a || (eqb a (get_or xs i 0) && ltb a 128)) →
      (a : ℕ) → z' a ≡ listed (take (i + 1) xs) a && ltb a 128
  listed_more held insert a =
      insert a ∙ ap (λ (t : Bool). t || (eqb a (get_or xs i 0) && ltb a 128)) (held a)
      ∙ sym (and-or_distrib_right (listed (take i xs) a) (eqb a (get_or xs i 0)) (ltb a 128))
      ∙ sym (ap (λ (t : Bool). t && ltb a 128) (ap (λ (ys : List ℕ). listed ys a) (take_more xs i 0 l) ∙ listed_push (take i xs) (get_or xs i 0) a))

pub listed_all : (xs : List ℕ) (i a : ℕ) → length xs ≤ i → listed (take i xs) a ≡ listed xs a
listed_all xs i a l = ap (λ (ys : List ℕ). listed ys a) (take_all i xs l)
