-- A ruling's bytes and its points: each gives the other, and either gives the ruling.
use Rattle.std.proofs.Common.{◌≡◌, ℕ, ◌+◌, ◌*◌, ◌/◌, ◌%◌, ◌^◌, ◌<◌, ◌≤◌, Bool, true, false, ◌&&◌, ◌||◌, eqb, ltb, ◌≢◌, List, length, get_or, set, sym, ap, ◌∙◌, ap₂, inl, inr, mod-lt, arith}
use mathlib.Core.HLevel.{is_prop→PathP, Π_prop}
use native.Mathlib.Bridge.{le_prop}
use native.Mathlib.Nat.{ℕ_set}
use lib.Bits.{bit_and, bit_or, and_mask}
use Rattle.std.proofs.Math.Bool.{or-false}
use Rattle.std.proofs.lemmas.Nat.{div-mul-add, mod-mul-add, one_shl}
use Rattle.std.proofs.lemmas.List.{get_or_past, ext_get_or, get_or-set_same, get_or-set_other}
use Rattle.std.proofs.lemmas.Bool.{cases_eq, cases_lt, both_ways, ne_eqb}
use Rattle.std.proofs.lemmas.Bool.Decides.{nat_tests}
use Rattle.rulings.specs.Rulings.{digit, byte, has, PointsBelow128, SamePointsSameRuling}
use Rattle.rulings.specs.declared.ruling.Ruling.{Ruling}
use Rattle.rulings.proofs.Digits.{digit_zero, digit_or, digit_power, same_digits}

pub byte_past : (r : Ruling) (i : ℕ) → 16 ≤ i → byte r i ≡ 0
byte_past r i h = get_or_past r.bytes i 0 (omega (arith, r.long))

pub has_past : PointsBelow128
unfolding has
has_past r a h = ap (λ (n : ℕ). digit n (a % 8)) (byte_past r (a / 8) (omega arith)) ∙ digit_zero (a % 8)

-- a point of a ruling is below 128
pub has_below : (r : Ruling) (a : ℕ) → has r a ≡ true → a < 128
has_below r a h =
    elim (cases_lt a 128) [
      | inl l ↦ l
      | inr l ↦ absurd (both_ways _ (has_past r a l) h)
    ]

pub has_at : (r : Ruling) (i k : ℕ) → k < 8 → has r (i * 8 + k) ≡ digit (byte r i) k
unfolding has
has_at r i k h = ap₂ (λ (j l : ℕ). digit (byte r j) l) (div-mul-add i 8 k h) (mod-mul-add i 8 k h)

-- the facts that a ruling keeps have one proof each, so its bytes are all of it
pub same_list : (r s : Ruling) → r.bytes ≡ s.bytes → r ≡ s
same_list r s e = λ i. record {
  bytes = e i;
  long = is_prop→PathP (λ j. length (e j) ≡ 16) (λ j. ℕ_set (length (e j)) 16) r.long s.long i;
  each = is_prop→PathP (λ j. (k : ℕ) → get_or (e j) k 0 < 256) (λ j. Π_prop (λ k. le_prop)) r.each s.each i;
}

same_bytes : (r s : Ruling) → ((i : ℕ) → i < 16 → byte r i ≡ byte s i) → r ≡ s
same_bytes r s h =
    same_list r s (ext_get_or 0 r.bytes s.bytes (r.long ∙ sym s.long) (λ i l. h i (omega (arith, r.long))))

pub same_points : SamePointsSameRuling
same_points r s h =
    same_bytes r s (λ i l. same_digits 8 (byte r i) (byte s i) (r.each i) (s.each i)
    (λ k p. sym (has_at r i k p) ∙ h (i * 8 + k) (omega arith) ∙ has_at s i k p))

-- the mask of a point in its byte, as the code writes it
pub mask_is : (p : ℕ) → (1 * 2 ^ bit_and p 7) % 256 ≡ 2 ^ (p % 8)
mask_is p = ap (λ (k : ℕ). (1 * 2 ^ k) % 256) (and_mask p 3) ∙ one_shl (p % 8) 8 (mod-lt p {m = 8} (omega arith))

-- a byte written anew, with one digit set, adds one point
module _ (r t : Ruling) (p : ℕ) (small : p < 128)
    (written : t.bytes ≡ set r.bytes (p / 8) (bit_or (byte r (p / 8)) (2 ^ (p % 8)))) where
  byte_there : byte t (p / 8) ≡ bit_or (byte r (p / 8)) (2 ^ (p % 8))
  byte_there = ap (λ (xs : List ℕ). get_or xs (p / 8) 0) written ∙ get_or-set_same r.bytes (p / 8) _ 0 (omega (arith, r.long))

  byte_elsewhere : (i : ℕ) → i ≢ p / 8 → byte t i ≡ byte r i
  byte_elsewhere i h = ap (λ (xs : List ℕ). get_or xs i 0) written ∙ get_or-set_other r.bytes (p / 8) i _ 0 h

  pub has_set : (a : ℕ) → has t a ≡ has r a || (eqb a p && ltb a 128)
  unfolding has
  has_set a = elim (cases_eq (a / 8) (p / 8)) [ inl e ↦ there e | inr h ↦ elsewhere h ]
    where
      there : a / 8 ≡ p / 8 → has t a ≡ has r a || (eqb a p && ltb a 128)
      there e =
          let only : eqb (p % 8) (a % 8) ≡ eqb a p && ltb a 128 = grind (arith, nat_tests) in
          ap (λ (n : ℕ). digit n (a % 8)) (ap (byte t) e ∙ byte_there ∙ ap (λ (i : ℕ). bit_or (byte r i) (2 ^ (p % 8))) (sym e))
          ∙ digit_or (byte r (a / 8)) (2 ^ (p % 8)) (a % 8)
          ∙ ap (λ (x : Bool). has r a || x) (digit_power (p % 8) (a % 8) ∙ only)

      elsewhere : a / 8 ≢ p / 8 → has t a ≡ has r a || (eqb a p && ltb a 128)
      elsewhere h =
          let other : eqb a p ≡ false = ne_eqb a p (λ e. h (ap (λ (n : ℕ). n / 8) e)) in
          ap (λ (n : ℕ). digit n (a % 8)) (byte_elsewhere (a / 8) h)
          ∙ sym (or-false (has r a)) ∙ ap (λ (x : Bool). has r a || (x && ltb a 128)) (sym other)
