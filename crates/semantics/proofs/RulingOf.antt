-- The ruling of a set of points below 128.
use Rattle.std.proofs.Common.{◌≡◌, ℕ, zero, suc, ◌+◌, ◌*◌, ◌/◌, ◌%◌, ◌<◌, true, List, map, length, get_or, sym, refl, ap, ◌∙◌, inl, inr, mod-lt, div-add-mod', arith}
use Rattle.std.specs.List.{range_with_len}
use mathlib.Core.Path.{fun_ext}
use Rattle.std.proofs.lemmas.List.FromFn.{length-map-range_with_len, get_or-map-range_with_len}
use Rattle.std.proofs.lemmas.List.{get_or_past}
use Rattle.std.proofs.lemmas.Bool.{cases_lt, false_from_ne_true}
use Rattle.rulings.specs.Points.{Points}
use Rattle.rulings.specs.Rulings.{digit, has}
use Rattle.rulings.specs.declared.ruling.Ruling.{Ruling}
use Rattle.rulings.proofs.Bytes.{has_past, same_points}
use Rattle.semantics.specs.Listing.{count_below}
use Rattle.semantics.proofs.Subsets.{number_of, number_below, number_digit}

every : Points
every a = true

count_every : (n : ℕ) → count_below n every ≡ n
unfolding every
count_every zero = refl
count_every (suc n) = let h = count_every n in omega arith

-- byte i has the eight points from 8 * i on
byte_of : Points → ℕ → ℕ
byte_of x i = number_of every 8 (λ j. x (i * 8 + j))

byte_of_below : (x : Points) (i : ℕ) → byte_of x i < 256
unfolding byte_of every
byte_of_below x i = number_below every 8 (λ j. x (i * 8 + j))

byte_of_digit : (x : Points) (i k : ℕ) → k < 8 → digit (byte_of x i) k ≡ x (i * 8 + k)
unfolding byte_of every
byte_of_digit x i k h = ap (digit (byte_of x i)) (sym (count_every k)) ∙ number_digit every 8 (λ j. x (i * 8 + j)) k h refl

bytes_of : Points → List ℕ
bytes_of x = map (byte_of x) (range_with_len 0 16)

bytes_long : (x : Points) → length (bytes_of x) ≡ 16
unfolding bytes_of
bytes_long x = length-map-range_with_len (byte_of x) 0 16

bytes_at : (x : Points) (i : ℕ) → i < 16 → get_or (bytes_of x) i 0 ≡ byte_of x i
unfolding bytes_of
bytes_at x i h = get_or-map-range_with_len (byte_of x) 0 16 i i 0 h (omega arith)

bytes_small : (x : Points) (i : ℕ) → get_or (bytes_of x) i 0 < 256
bytes_small x i =
    elim (cases_lt i 16) [
      | inl h ↦ omega (arith, bytes_at x i h, byte_of_below x i)
      | inr h ↦ omega (arith, get_or_past (bytes_of x) i 0 (omega (arith, bytes_long x)))
    ]

pub ruling_of : Points → Ruling
ruling_of x = record { bytes = bytes_of x; long = bytes_long x; each = bytes_small x }

-- it has the points of the set that are below 128
pub ruling_of_has : (x : Points) (a : ℕ) → a < 128 → has (ruling_of x) a ≡ x a
unfolding has ruling_of
ruling_of_has x a h =
    ap (λ (n : ℕ). digit n (a % 8)) (bytes_at x (a / 8) (omega arith))
    ∙ (byte_of_digit x (a / 8) (a % 8) (mod-lt a {m = 8} (omega arith)) ∙ ap x (div-add-mod' a 8))

-- so it is the set, where all points are below 128
pub ruling_of_same : (x : Points) → ((a : ℕ) → x a ≡ true → a < 128) → has (ruling_of x) ≡ x
ruling_of_same x small =
    fun_ext (λ a. elim (cases_lt a 128) [
      | inl h ↦ ruling_of_has x a h
      | inr h ↦ has_past (ruling_of x) a h ∙ sym (false_from_ne_true (x a) (λ e. let l = small a e in omega arith))
    ])

pub ruling_of_points : (r : Ruling) → ruling_of (has r) ≡ r
ruling_of_points r = same_points (ruling_of (has r)) r (λ a h. ruling_of_has (has r) a h)
