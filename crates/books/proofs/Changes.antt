-- More of what changes meet: refusals of different numbers, stray points, and elements that are taken out.
use Rattle.std.specs.List.{list_any}
use Rattle.std.specs.Prelude.{◌≡◌, ℕ, ◌<◌, Bool, true, false, cond, ◌&&◌, ◌||◌, List, [], ◌∷◌, filter, None, ◌≢◌, nat_le}
use Rattle.std.proofs.Common.{sym, ap, ◌∙◌, inl, inr, arith, le-leb}
use Rattle.std.proofs.Math.Decide.{dec_lt}
use Rattle.std.proofs.lemmas.Bool.{and_from, or_cases, or_left, or_right}
use Rattle.rulings.specs.Points.{Points, Lowest}
use Rattle.rulings.specs.Rulings.{has}
use Rattle.rulings.specs.declared.ruling.Ruling.{Ruling}
use Rattle.semantics.proofs.Tests.{false_is_not_true}
use Rattle.answers.specs.declared.fault.Refusal.{Refusal}
use Rattle.answers.specs.declared.fault.Layer.TheVariants.{Book}
use Rattle.answers.specs.declared.fault.Fault.{Fault}
use Rattle.answers.specs.Faults.{fault_of, number}
use Rattle.answers.specs.Checks.{stray}

-- faults with refusals of different numbers are different
pub other_number : {A : Type 0} (why why' : Refusal) → fault_of Book why ≡ fault_of Book why' → (number why ≢ number why') → A
other_number why why' e n = absurd (n (ap (λ (f : Fault). number f.refusal) e))

-- where no point is stray, every point is one of the book's
pub not_stray : (n : ℕ) (x : Points) → Lowest (stray n x) None → (a : ℕ) → x a ≡ true → a < n
not_stray n x none a h = go (dec_lt a n)
  where
    go : Dec (a < n) → a < n
    go (yes l) = l
    go (no l) = false_is_not_true (sym (none a) ∙ and_from _ _ (le-leb n a (omega (arith, l))) h)

-- where the union of two rulings has no stray point, the two have none
pub none_stray : (n : ℕ) (p q u : Ruling) → ((c : ℕ) → has u c ≡ has p c || has q c) →
    Lowest (λ c. nat_le n c && has u c) None → Lowest (stray n (λ c. has p c || has q c)) None
none_stray n p q u both none c = sym (ap (λ (t : Bool). nat_le n c && t) (both c)) ∙ none c

-- taking elements out makes no test true
pub any_kept_part : {X : Type 0} (test keep : X → Bool) (xs : List X) → list_any test (filter keep xs) ≡ true → list_any test xs ≡ true
any_kept_part test keep [] h = h
any_kept_part test keep (x ∷ xs) h = go (keep x) (any_kept_part test keep xs) h
  where
    go : (k : Bool) → (list_any test (filter keep xs) ≡ true → list_any test xs ≡ true) →
        list_any test (cond k (x ∷ filter keep xs) (filter keep xs)) ≡ true → test x || list_any test xs ≡ true
    go true ih q = elim (or_cases (test x) (list_any test (filter keep xs)) q) [
      | inl t ↦ or_left (test x) (list_any test xs) t
      | inr t ↦ or_right (test x) (list_any test xs) (ih t)
    ]
    go false ih q = or_right (test x) (list_any test xs) (ih q)
