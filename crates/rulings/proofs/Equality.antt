-- What `==` tells of two rulings, and of a ruling and an empty one.
use Rattle.std.proofs.Common.{◌≡◌, ℕ, Bool, true, false, ◌&&◌, ◌↔◌, sym, ap, ◌∙◌}
use Rattle.std.specs.Str.{bytes_eq}
use Rattle.std.proofs.lemmas.Slice.Eq.{bytes_eq-Decides}
use Rattle.rulings.specs.Rulings.{has}
use Rattle.rulings.specs.declared.ruling.Ruling.{Ruling}
use Rattle.rulings.proofs.Bytes.{same_list, same_points}

-- rulings are equal exactly if they have the same points
pub equal_tells : (r s : Ruling) → (bytes_eq r.bytes s.bytes ≡ true) ↔ ((a : ℕ) → has r a ≡ has s a)
equal_tells r s = (
  λ e a. ap (λ (q : Ruling). has q a) (same_list r s ((bytes_eq-Decides r.bytes s.bytes).0 e)),
  λ h. (bytes_eq-Decides r.bytes s.bytes).1 (ap (λ (q : Ruling). q.bytes) (same_points r s (λ a _. h a))),
)

-- nothing is in both of two sets exactly if the ruling of what they share equals an empty one
pub none_shared : (x y : ℕ → Bool) (shared none : Ruling) (t : Bool) → ((a : ℕ) → has shared a ≡ x a && y a) → ((a : ℕ) → has none a ≡ false) →
    t ≡ bytes_eq shared.bytes none.bytes → (t ≡ true) ↔ ((a : ℕ) → x a ≡ true → y a ≡ false)
none_shared x y shared none t both out e = (
  λ q a h. ap (λ (p : Bool). p && y a) (sym h) ∙ sym (both a) ∙ (equal_tells shared none).0 (sym e ∙ q) a ∙ out a,
  λ h. e ∙ (equal_tells shared none).1 (λ a. both a ∙ not_both (x a) (y a) (h a) ∙ sym (out a)),
)
  where
    not_both : (p q : Bool) → (p ≡ true → q ≡ false) → p && q ≡ false
    not_both true q n = n (cc)
    not_both false q n = cc
