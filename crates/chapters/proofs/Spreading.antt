-- The subset with a number, by the list of the points: which of them the digits from one on choose.
use Rattle.std.proofs.Common.{◌≡◌, ℕ, zero, suc, ◌+◌, ◌/◌, ◌^◌, ◌<◌, ◌≤◌, Bool, false, ◌&&◌, ◌||◌, eqb, ltb, leb, List, [], ◌∷◌, bit_and, refl, sym, ap, ap₂, ◌∙◌, inl, inr, add-one, zero-le, arith}
use Rattle.std.proofs.lemmas.Bool.{cases_lt, cases_Bool, eq-eqb, ne_eqb, lt-ltb, lt-leb, le-leb, and_left, and_right, or_from}
use Rattle.std.proofs.Math.Bool.{and-false, or-false, or_assoc}
use lib.Bits.{and_mask}
use mathlib.Core.Path.{fun_ext}
use Rattle.std.proofs.lemmas.Bool.Decides.{nat_tests}
use Rattle.rulings.specs.Points.{Points}
use Rattle.rulings.specs.Rulings.{digit, has}
use Rattle.rulings.specs.Ascending.{points_from}
use Rattle.rulings.specs.declared.ruling.Ruling.{Ruling}
use Rattle.rulings.proofs.Ascending.{from_past, from_in, from_out}
use Rattle.rulings.proofs.Bytes.{has_past}
use Rattle.rulings.proofs.Digits.{digit_past}
use Rattle.semantics.specs.Listing.{count_below}
use Rattle.semantics.specs.Walk.{spread}
use Rattle.semantics.proofs.Subsets.{count_yes, count_no, spread_at, spread_off}

-- the points of a list that the digits of a number choose, from digit k on
abbrev pub chosen : ℕ → ℕ → List ℕ → Points
chosen c k [] a = false
chosen c k (p ∷ ps) a = (eqb a p && digit c k) || chosen c (k + 1) ps a

-- the next point of the list goes to the subset, which has it from then on, if its digit is 1
module _ (c k k' : ℕ) (ps ps' : List ℕ) (p a : ℕ) (list : ps ≡ p ∷ ps') (next : k' ≡ k + 1) (x : Bool) where
  one_chosen : (x' d : Bool) → digit c k ≡ d → x' ≡ x || (eqb a p && d) → x' || chosen c k' ps' a ≡ x || chosen c k ps a
  one_chosen x' d is put =
      ap₂ (λ (t : Bool) (i : ℕ). t || chosen c i ps' a) put next
      ∙ or_assoc x (eqb a p && d) (chosen c (k + 1) ps' a)
      ∙ ap (λ (t : Bool). x || ((eqb a p && t) || chosen c (k + 1) ps' a)) (sym is)
      ∙ ap (λ (qs : List ℕ). x || chosen c k qs a) (sym list)

  pub chosen_in : (x' : Bool) → a < 128 → bit_and (c / 2 ^ k) 1 ≡ 1 → x' ≡ x || (eqb a p && ltb a 128) → x' || chosen c k' ps' a ≡ x || chosen c k ps a
  chosen_in x' small one = one_chosen x' (ltb a 128) (eq-eqb _ _ (sym (and_mask (c / 2 ^ k) 1) ∙ one) ∙ sym (lt-ltb a 128 small))

  pub chosen_out : (bit_and (c / 2 ^ k) 1 ≡ 1 → ⊥) → x || chosen c k' ps' a ≡ x || chosen c k ps a
  chosen_out not_one = one_chosen x false (ne_eqb _ _ (λ e. not_one (and_mask (c / 2 ^ k) 1 ∙ e))) (sym (ap (λ (t : Bool). x || t) (and-false (eqb a p)) ∙ or-false x))

-- past its digits a number chooses nothing
pub none_chosen : (c k : ℕ) (ps : List ℕ) (a : ℕ) → c < 2 ^ 16 → 16 ≤ k → chosen c k ps a ≡ false
none_chosen c k [] a h l = refl
none_chosen c k (p ∷ ps) a h l = or_from _ _ (and_right (eqb a p) _ (digit_past 16 c k h l)) (none_chosen c (k + 1) ps a h (omega arith))

module _ (r : Ruling) (c a : ℕ) (small : a < 128) where
  one_more : (n : ℕ) (d : Bool) → spread (has r) c n ≡ d → (eqb a n && d) || (leb (n + 1) a && spread (has r) c a) ≡ leb n a && spread (has r) c a
  one_more n d e = grind (arith, nat_tests)

  none_more : (n : ℕ) → spread (has r) c n ≡ false → leb (n + 1) a && spread (has r) c a ≡ leb n a && spread (has r) c a
  none_more n e = grind (arith, nat_tests)

  -- from n on, the points of the ruling are chosen by the digits from their places on
  chosen_from : (j n k : ℕ) → n + j ≡ 128 → k ≡ count_below n (has r) → chosen c k (points_from r n) a ≡ leb n a && spread (has r) c a
  chosen_from zero n k e is = rw (from_past r n (omega arith)) (sym (and_left _ _ (lt-leb n a (omega arith))))
  chosen_from (suc j) n k e is =
      elim (cases_Bool (has r n)) [
        | inl d ↦
            ap (λ (ps : List ℕ). chosen c k ps a) (from_in r n d)
            ∙ ap (λ (t : Bool). (eqb a n && digit c k) || t) (chosen_from j (n + 1) (k + 1) (omega arith) (rw (add-one n) (omega (arith, is, count_yes (has r) n d))))
            ∙ one_more n (digit c k) (spread_at (has r) c n d ∙ ap (digit c) (sym is))
        | inr d ↦
            ap (λ (ps : List ℕ). chosen c k ps a) (from_out r n d)
            ∙ chosen_from j (n + 1) k (omega arith) (rw (add-one n) (is ∙ sym (count_no (has r) n d)))
            ∙ none_more n (spread_off (has r) c n d)
      ]

  pub all_chosen : chosen c 0 (points_from r 0) a ≡ spread (has r) c a
  all_chosen = chosen_from 128 0 0 refl refl ∙ ap (λ (t : Bool). t && spread (has r) c a) (le-leb 0 a zero-le)

-- when nothing more is chosen, the subset is complete
pub all_decided : (r z : Ruling) (c k : ℕ) (ps : List ℕ) → ((a : ℕ) → chosen c k ps a ≡ false) →
    ((a : ℕ) → a < 128 → has z a || chosen c k ps a ≡ spread (has r) c a) → has z ≡ spread (has r) c
all_decided r z c k ps none so_far =
    fun_ext (λ a. elim (cases_lt a 128) [
      | inl l ↦ sym (or-false (has z a)) ∙ ap (λ (t : Bool). has z a || t) (sym (none a)) ∙ so_far a l
      | inr l ↦ has_past z a l ∙ sym (spread_off (has r) c a (has_past r a l))
    ])
