-- The points of a ruling in order, number by number, and what the lowest of them says of the list.
use Rattle.std.proofs.Common.{◌≡◌, ℕ, zero, suc, ◌+◌, ◌-◌, ◌<◌, ◌≤◌, Bool, true, false, cond, ◌&&◌, leb, [], ◌∷◌, filter, Option, Some, None, MatchOption, sym, ap, ◌∙◌, inl, inr, arith}
use Rattle.std.specs.List.{range_with_len}
use Rattle.std.proofs.lemmas.Bool.{cases_lt, le-leb, leb-true, and_parts, cond-true, cond-false}
use Rattle.rulings.specs.Points.{Lowest}
use Rattle.rulings.specs.Rulings.{has}
use Rattle.rulings.specs.Ascending.{points_from}
use Rattle.rulings.specs.declared.ruling.Ruling.{Ruling}
use Rattle.rulings.proofs.Bytes.{has_below}

module _ (r : Ruling) where
  pub from_past : (n : ℕ) → 128 ≤ n → points_from r n ≡ []
  from_past n h = let e : 128 - n ≡ 0 = omega arith in ap (λ (k : ℕ). filter (has r) (range_with_len n k)) e

  from_here : (n : ℕ) → n < 128 → points_from r n ≡ cond (has r n) (n ∷ points_from r (n + 1)) (points_from r (n + 1))
  from_here n h = let e : 128 - n ≡ suc (128 - (n + 1)) = omega arith in ap (λ (k : ℕ). filter (has r) (range_with_len n k)) e

  -- a point of the ruling is the first of those from it on
  pub from_in : (n : ℕ) → has r n ≡ true → points_from r n ≡ n ∷ points_from r (n + 1)
  from_in n e = from_here n (has_below r n e) ∙ cond-true _ _ _ e

  -- another number is passed over
  pub from_out : (n : ℕ) → has r n ≡ false → points_from r n ≡ points_from r (n + 1)
  from_out n e =
      elim (cases_lt n 128) [
        | inl l ↦ from_here n l ∙ cond-false _ _ _ e
        | inr l ↦ from_past n l ∙ sym (from_past (n + 1) (omega arith))
      ]

  from_later : (n k : ℕ) → ((a : ℕ) → n ≤ a → a < n + k → has r a ≡ false) → points_from r n ≡ points_from r (n + k)
  from_later n zero out = let e : n ≡ n + zero = omega arith in ap (points_from r) e
  from_later n (suc k) out =
      let e : n + 1 + k ≡ n + suc k = omega arith in
      from_out n (out n (omega arith) (omega arith)) ∙ from_later (n + 1) k (λ a l h. out a (omega arith) (omega arith)) ∙ ap (points_from r) e

  -- the lowest point from a number on is the first of the list, and the others stand behind it
  pub lowest_first : (n : ℕ) (found : Option ℕ) → Lowest (λ a. leb n a && has r a) found →
      MatchOption found (points_from r n ≡ []) (λ p. points_from r n ≡ p ∷ points_from r (p + 1))
  lowest_first n found lowest = by found lowest
    where
      out : (a : ℕ) → n ≤ a → leb n a && has r a ≡ false → has r a ≡ false
      out a l e = ap (λ (t : Bool). t && has r a) (sym (le-leb n a l)) ∙ e

      by : (f : Option ℕ) → Lowest (λ a. leb n a && has r a) f →
          MatchOption f (points_from r n ≡ []) (λ p. points_from r n ≡ p ∷ points_from r (p + 1))
      by None none = from_later n 128 (λ a l _. out a l (none a)) ∙ from_past (n + 128) (omega arith)
      by (Some p) (here, before) =
          let (above, in_r) = and_parts _ _ here in
          let le : n ≤ p = leb-true n p above in
          let e : n + (p - n) ≡ p = omega arith in
          from_later n (p - n) (λ a l h. out a l (before a (omega arith))) ∙ ap (points_from r) e ∙ from_in p in_r
