-- The lowest point on which two rulings differ: it stands in the first byte that differs.
use Rattle.std.proofs.Common.{◌≡◌, ℕ, ◌+◌, ◌-◌, ◌*◌, ◌/◌, ◌%◌, ◌<◌, Bool, true, false, Option, Some, None, MatchOption, ◌≢◌, List, length, get_or, zero-le, sym, refl, ap, ap₂, min, ◌∙◌, subst, inl, inr, mod-eq_of_lt, arith, bit_or, bit_xor}
use mathlib.Core.Bool.{xor}
use lib.Bits.{or_shifted, xor_add_and, and_le_l, and_le_r}
use Rattle.std.specs.Int.{bit_at, trailing_zeros, w8}
use Rattle.std.proofs.lemmas.Nat.Bits.{bit_at-trailing_zeros}
use Rattle.std.specs.List.{zip, AllWithin, HoldsAt}
use Rattle.std.proofs.lemmas.Slice.Zip.{length-zip, get_or-zip}
use Rattle.std.proofs.lemmas.Bool.{cases_lt}
use Rattle.rulings.specs.Points.{Lowest}
use Rattle.rulings.specs.Rulings.{digit, byte, has, differing}
use Rattle.rulings.specs.declared.ruling.Ruling.{Ruling}
use Rattle.rulings.proofs.Bitwise.{xor_bitwise, combined_below, digit_combined}
use Rattle.rulings.proofs.Bytes.{byte_past}
use Rattle.rulings.proofs.Digits.{digit_from}

pub xor_itself : (x : Bool) → xor x x ≡ false
unfolding xor
xor_itself true = refl
xor_itself false = refl

pub xor_apart : (x y : Bool) → xor x y ≡ false → x ≡ y
unfolding xor
xor_apart true true e = refl
xor_apart true false e = e
xor_apart false true e = sym e
xor_apart false false e = refl

-- the digits in which the bytes at a place differ
abbrev pub apart : Ruling → Ruling → ℕ → ℕ
apart r s i = bit_xor (byte r i) (byte s i)

-- the first place at which the bytes of two rulings differ
pub record FirstApart (r s : Ruling) (i : ℕ) : Type 0 where
  pub small : i < 16
  pub differ : byte r i ≢ byte s i
  pub before : (j : ℕ) → j < i → byte r j ≡ byte s j

module _ (r s : Ruling) where
  -- equal bytes have equal points
  alike : (a : ℕ) → byte r (a / 8) ≡ byte s (a / 8) → differing r s a ≡ false
  unfolding has
  alike a same =
      ap (λ (m : ℕ). xor (digit m (a % 8)) (digit (byte s (a / 8)) (a % 8))) same
      ∙ xor_itself (digit (byte s (a / 8)) (a % 8))

  -- sixteen equal bytes leave no point
  all_alike : ((i : ℕ) → i < 16 → byte r i ≡ byte s i) → (a : ℕ) → differing r s a ≡ false
  all_alike same a =
      elim (cases_lt (a / 8) 16) [
        | inl l ↦ alike a (same (a / 8) l)
        | inr l ↦ alike a (byte_past r (a / 8) l ∙ sym (byte_past s (a / 8) l))
      ]

  -- the sixteen pairs of bytes
  sixteen : length (zip r.bytes s.bytes) ≡ 16
  sixteen = length-zip r.bytes s.bytes ∙ ap₂ min r.long s.long

  pair_at : (i : ℕ) → i < 16 → get_or (zip r.bytes s.bytes) i (0, 0) ≡ (byte r i, byte s i)
  pair_at i h = get_or-zip r.bytes s.bytes i (0, 0) (omega (arith, r.long)) (omega (arith, s.long))

  alike_at : (i : ℕ) (h : i < 16) → (get_or (zip r.bytes s.bytes) i (0, 0)).0 ≡ (get_or (zip r.bytes s.bytes) i (0, 0)).1 → byte r i ≡ byte s i
  alike_at i h = subst (λ (p : ℕ × ℕ). p.0 ≡ p.1) (pair_at i h)

  -- the first pair of bytes that differ is at the first place where the rulings do
  pub first_apart : (found : Option ℕ) → (
      let pairs : List (ℕ × ℕ) = zip r.bytes s.bytes in
      MatchOption found (AllWithin (λ p. p.0 ≡ p.1) pairs 0 (length pairs))
      (λ i. (i < length pairs) × HoldsAt (λ p. p.0 ≢ p.1) pairs i × AllWithin (λ p. p.0 ≡ p.1) pairs 0 i)
      ) → MatchOption found ((a : ℕ) → differing r s a ≡ false) (FirstApart r s)
  first_apart None all = all_alike (λ i h. alike_at i h (all i (0, 0) zero-le (omega (arith, sixteen))))
  first_apart (Some i) (small, differ, before) =
      let h : i < 16 = omega (arith, sixteen) in
      record {
        small = h;
        differ = subst (λ (p : ℕ × ℕ). p.0 ≢ p.1) (pair_at i h) (differ (0, 0));
        before = λ j l. alike_at j (omega arith) (before j (0, 0) zero-le l);
      }

  -- bytes that differ differ in a digit
  some_digit : (i : ℕ) → byte r i ≢ byte s i → 0 < apart r s i
  some_digit i h = omega (arith, h, xor_add_and (byte r i) (byte s i), and_le_l (byte r i) (byte s i), and_le_r (byte r i) (byte s i))

  -- the lowest digit that differs gives the lowest point that differs, as the code writes it
  pub lowest_differing : (i : ℕ) → FirstApart r s i → Lowest (differing r s) (Some (bit_or (i * 8 % 256) (trailing_zeros w8 (apart r s i))))
  lowest_differing i first =
      subst (λ (a : ℕ). Lowest (differing r s) (Some a)) (sym place) (differs k lowest.0 ∙ digit_from (apart r s i) k 1 lowest.1, before)
    where
      k : ℕ
      k = trailing_zeros w8 (apart r s i)

      lowest : (k < 8) × (bit_at (apart r s i) k ≡ 1) × ((j : ℕ) → j < k → bit_at (apart r s i) j ≡ 0)
      lowest = bit_at-trailing_zeros w8 (apart r s i) (some_digit i first.differ) (combined_below bit_xor xor xor_bitwise r s i)

      place : bit_or (i * 8 % 256) k ≡ i * 8 + k
      place = ap (λ (n : ℕ). bit_or n k) (mod-eq_of_lt (omega (arith, first.small))) ∙ or_shifted i 3 k lowest.0

      differs : (j : ℕ) → j < 8 → differing r s (i * 8 + j) ≡ digit (apart r s i) j
      differs j l = sym (digit_combined bit_xor xor xor_bitwise r s i j l)

      before : (a : ℕ) → a < i * 8 + k → differing r s a ≡ false
      before a h =
          elim (cases_lt a (i * 8)) [
            | inl l ↦ alike a (first.before (a / 8) (omega arith))
            | inr l ↦
                let j : ℕ = a - i * 8 in
                let e : i * 8 + j ≡ a = omega arith in
                subst (λ (b : ℕ). differing r s b ≡ false) e (differs j (omega (arith, lowest.0)) ∙ digit_from (apart r s i) j 0 (lowest.2 j (omega arith)))
          ]
