-- The binary digits of a number, by std's lemmas on its bits: under the bitwise operations, of a power of two, and that they determine the number.
use Rattle.std.proofs.Common.{◌≡◌, ℕ, ◌+◌, ◌-◌, ◌%◌, ◌^◌, ◌<◌, ◌≤◌, false, not, ◌&&◌, ◌||◌, eqb, min, max, sym, ap, ◌∙◌, inl, inr, arith, bit_and, bit_or, bit_xor}
use mathlib.Core.Bool.{xor}
use Rattle.std.specs.Int.{bit_at, w8}
use Rattle.std.proofs.lemmas.Bool.{eq-eqb, ne_eqb, cases_eq}
use Rattle.std.proofs.lemmas.Bool.Decides.{nat_tests}
use Rattle.std.proofs.lemmas.Nat.Bits.{bit_at_and, bit_at_or, bit_at_xor, bit_at_not, bit_at-pow_same, bit_at-pow_other, bit_at-zero, bit_at_above, bit_at-lt, same_from_bits_below}
use Rattle.rulings.specs.Rulings.{digit}

-- a digit is true where std's bit is 1
pub digit_from : (n k m : ℕ) → bit_at n k ≡ m → digit n k ≡ eqb m 1
digit_from n k m = ap (λ (b : ℕ). eqb b 1)

min_table : (x y : ℕ) → x < 2 → y < 2 → eqb (min x y) 1 ≡ eqb x 1 && eqb y 1
min_table x y h l = grind (arith, nat_tests)

max_table : (x y : ℕ) → x < 2 → y < 2 → eqb (max x y) 1 ≡ eqb x 1 || eqb y 1
max_table x y h l = grind (arith, nat_tests)

sum_table : (x y : ℕ) → x < 2 → y < 2 → eqb ((x + y) % 2) 1 ≡ xor (eqb x 1) (eqb y 1)
unfolding xor
sum_table x y h l = grind (arith, nat_tests)

rest_table : (x : ℕ) → x < 2 → eqb (1 - x) 1 ≡ not (eqb x 1)
rest_table x h = grind (arith, nat_tests)

bits_alike : (x y : ℕ) → x < 2 → y < 2 → eqb x 1 ≡ eqb y 1 → x ≡ y
bits_alike x y h l e = grind (arith, nat_tests)

pub digit_and : (a b k : ℕ) → digit (bit_and a b) k ≡ digit a k && digit b k
digit_and a b k = digit_from _ k _ (bit_at_and a b k) ∙ min_table _ _ (bit_at-lt a k) (bit_at-lt b k)

pub digit_or : (a b k : ℕ) → digit (bit_or a b) k ≡ digit a k || digit b k
digit_or a b k = digit_from _ k _ (bit_at_or a b k) ∙ max_table _ _ (bit_at-lt a k) (bit_at-lt b k)

pub digit_xor : (a b k : ℕ) → digit (bit_xor a b) k ≡ xor (digit a k) (digit b k)
digit_xor a b k = digit_from _ k _ (bit_at_xor a b k) ∙ sum_table _ _ (bit_at-lt a k) (bit_at-lt b k)

-- the digits of `!n`
pub digit_complement : (n k : ℕ) → n < 256 → k < 8 → digit (255 - n) k ≡ not (digit n k)
digit_complement n k h l = digit_from _ k _ (bit_at_not w8 n k h l) ∙ rest_table _ (bit_at-lt n k)

-- the digits past a number's width are 0
pub digit_past : (w n k : ℕ) → n < 2 ^ w → w ≤ k → digit n k ≡ false
digit_past w n k h p = digit_from n k 0 (bit_at_above n w k h p)

pub digit_zero : (k : ℕ) → digit 0 k ≡ false
digit_zero k = digit_from 0 k 0 (bit_at-zero k)

pub digit_power : (j k : ℕ) → digit (2 ^ j) k ≡ eqb j k
digit_power j k =
    elim (cases_eq j k) [
      | inl e ↦ ap (λ (i : ℕ). digit (2 ^ i) k) e ∙ digit_from _ k 1 (bit_at-pow_same k) ∙ sym (eq-eqb j k e)
      | inr h ↦ digit_from _ k 0 (bit_at-pow_other j k (λ e. h (sym e))) ∙ sym (ne_eqb j k h)
    ]

-- a number of w digits is known by them
pub same_digits : (w n m : ℕ) → n < 2 ^ w → m < 2 ^ w → ((k : ℕ) → k < w → digit n k ≡ digit m k) → n ≡ m
same_digits w n m p q h = same_from_bits_below w n m p q (λ k l. bits_alike _ _ (bit_at-lt n k) (bit_at-lt m k) (h k l))
