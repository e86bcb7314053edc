use Rattle.std.proofs.Common.{◌≡◌, ℕ, ◌<◌, ◌≤◌, true, false, Option, Some, None, MatchOption, Bool, ◌&&◌, leb, ap, ◌∙◌, inl, inr, rules}
use Rattle.std.proofs.lemmas.Bool.{and_left, and_right, cases_lt, le-leb, lt-leb}
use Rattle.std.proofs.lemmas.Iterator.{first_from_Range}
use Rattle.rulings.specs.Points.{Points, Lowest}
use Rattle.rulings.specs.Rulings.{has}
use Rattle.rulings.proofs.Bytes.{has_past}
use Rattle.rulings.proofs.ruling.Ruling.first_from.Goals as goal

-- what a search from a start finds is the lowest of the points at or above it, where no point is at 128 or above
module _ (x : Points) (start : ℕ) (past : (a : ℕ) → 128 ≤ a → x a ≡ false) where
  none_below : (top : ℕ) → ((k : ℕ) → start ≤ k → k < top → x k ≡ false) → (a : ℕ) → a < top → leb start a && x a ≡ false
  none_below top none a h =
      elim (cases_lt a start) [
        | inl l ↦ and_left _ _ (lt-leb start a l)
        | inr l ↦ and_right _ _ (none a l h)
      ]

  lowest_found : (found : Option ℕ) →
      MatchOption found ((k : ℕ) → start ≤ k → k < 128 → x k ≡ false)
      (λ i. (start ≤ i) × (i < 128) × (x i ≡ true) × ((k : ℕ) → start ≤ k → k < i → x k ≡ false)) →
      Lowest (λ a. leb start a && x a) found
  lowest_found None none = λ a.
      elim (cases_lt a 128) [
        | inl l ↦ none_below 128 none a l
        | inr l ↦ and_right _ _ (past a l)
      ]
  lowest_found (Some i) found = (ap (λ (t : Bool). t && x i) (le-leb start i found.0) ∙ found.2, none_below i found.3)

pub returns : goal.returns
returns c =
    let points : Points = has c.args.self in
    lowest_found points c.args.start (has_past c.args.self) c.find.result
    (first_from_Range _ _ _ _ (λ k. points k ≡ true) (λ k. points k ≡ false) c.find.ensures.ran (λ k q e. search rules) (λ k q e. search rules))
