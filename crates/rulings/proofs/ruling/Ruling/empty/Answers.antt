-- Every byte is 0, so no point is in the ruling.
use Rattle.std.proofs.Common.{◌≡◌, ℕ, ◌/◌, ◌%◌, List, get_or, replicate, ap, ◌∙◌, inl, inr}
use Rattle.std.proofs.lemmas.List.{get_or-replicate, get_or_past}
use Rattle.std.proofs.lemmas.Bool.{cases_lt}
use Rattle.rulings.specs.Rulings.{digit, has}
use Rattle.rulings.proofs.Digits.{digit_zero}
use Rattle.rulings.proofs.ruling.Ruling.empty.Goals as goal

zero_bytes : List ℕ
zero_bytes = replicate 16 0

zeros : (i : ℕ) → get_or zero_bytes i 0 ≡ 0
unfolding zero_bytes
zeros i = elim (cases_lt i 16) [ inl h ↦ get_or-replicate 16 i 0 0 h | inr h ↦ get_or_past zero_bytes i 0 h ]

pub returns : goal.returns
unfolding has zero_bytes
returns c a = ap (λ (n : ℕ). digit n (a % 8)) (zeros (a / 8)) ∙ digit_zero (a % 8)
