-- Operations on bytes that work on each digit apart, lifted to rulings: what is done byte by byte is done point by point.
use Rattle.std.proofs.Common.{◌≡◌, ℕ, ◌+◌, ◌-◌, ◌*◌, ◌/◌, ◌%◌, ◌<◌, ◌≤◌, Bool, not, ◌&&◌, ◌||◌, sym, refl, ap, ◌∙◌, ap₂, inl, inr, lt_of_le_of_lt, mod-lt, arith}
use mathlib.Core.Bool.{xor}
use lib.Bits.{bit_and, bit_or, bit_xor, and_le_l}
use Rattle.std.proofs.lemmas.Nat.{or_lt, xor_lt}
use Rattle.std.proofs.lemmas.Bool.{cases_lt}
use Rattle.rulings.specs.Rulings.{digit, byte, has}
use Rattle.rulings.specs.declared.ruling.Ruling.{Ruling}
use Rattle.rulings.proofs.Bytes.{byte_past, has_at}
use Rattle.rulings.proofs.Digits.{digit_and, digit_or, digit_xor, digit_complement}

-- op does to each of the eight digits of two bytes what f does
pub record Bitwise (op : ℕ → ℕ → ℕ) (f : Bool → Bool → Bool) : Type 0 where
  pub zeros : op 0 0 ≡ 0
  pub below : (m n : ℕ) → m < 256 → n < 256 → op m n < 256
  pub digits : (m n k : ℕ) → m < 256 → n < 256 → k < 8 → digit (op m n) k ≡ f (digit m k) (digit n k)

-- the digits that the other byte lacks
abbrev pub lacking : ℕ → ℕ → ℕ
lacking m n = bit_and m (255 - n)

pub or_bitwise : Bitwise bit_or ◌||◌
or_bitwise = record { zeros = refl; below = or_lt 8; digits = λ m n k _ _ _. digit_or m n k }

pub xor_bitwise : Bitwise bit_xor xor
xor_bitwise = record { zeros = refl; below = xor_lt 8; digits = λ m n k _ _ _. digit_xor m n k }

pub and_bitwise : Bitwise bit_and ◌&&◌
and_bitwise = record {
  zeros = refl;
  below = λ m n h _. lt_of_le_of_lt (and_le_l m n) h;
  digits = λ m n k _ _ _. digit_and m n k;
}

pub lacking_bitwise : Bitwise lacking (λ x y. x && not y)
lacking_bitwise = record {
  zeros = refl;
  below = λ m n h _. lt_of_le_of_lt (and_le_l m (255 - n)) h;
  digits = λ m n k _ h l. digit_and m (255 - n) k ∙ ap (λ (x : Bool). digit m k && x) (digit_complement n k h l);
}

module _ (op : ℕ → ℕ → ℕ) (f : Bool → Bool → Bool) (b : Bitwise op f) (r s : Ruling) where
  pub combined_below : (i : ℕ) → op (byte r i) (byte s i) < 256
  combined_below i = b.below (byte r i) (byte s i) (r.each i) (s.each i)

  combined_past : (i : ℕ) → 16 ≤ i → op (byte r i) (byte s i) ≡ 0
  combined_past i h = ap₂ op (byte_past r i h) (byte_past s i h) ∙ b.zeros

  -- the digits of a combined byte, by place and by point
  pub digit_combined : (i k : ℕ) → k < 8 → digit (op (byte r i) (byte s i)) k ≡ f (has r (i * 8 + k)) (has s (i * 8 + k))
  digit_combined i k h =
      b.digits (byte r i) (byte s i) k (r.each i) (s.each i) h ∙ sym (ap₂ f (has_at r i k h) (has_at s i k h))

  point_combined : (a : ℕ) → digit (op (byte r (a / 8)) (byte s (a / 8))) (a % 8) ≡ f (has r a) (has s a)
  unfolding has
  point_combined a = b.digits (byte r (a / 8)) (byte s (a / 8)) (a % 8) (r.each (a / 8)) (s.each (a / 8)) (mod-lt a {m = 8} (omega arith))

-- a ruling whose bytes are combined place by place has its points combined
module _ (op : ℕ → ℕ → ℕ) (f : Bool → Bool → Bool) (b : Bitwise op f) (r s t : Ruling)
    (made : (i : ℕ) → i < 16 → byte t i ≡ op (byte r i) (byte s i)) where
  pub combined_has : (a : ℕ) → has t a ≡ f (has r a) (has s a)
  unfolding has
  combined_has a = ap (λ (n : ℕ). digit n (a % 8)) (whole (a / 8)) ∙ point_combined op f b r s a
    where
      whole : (i : ℕ) → byte t i ≡ op (byte r i) (byte s i)
      whole i =
          elim (cases_lt i 16) [
            | inl l ↦ made i l
            | inr l ↦ byte_past t i l ∙ sym (combined_past op f b r s i l)
          ]
