-- Boolean tests as facts.
use Rattle.std.proofs.Common.{◌≡◌, Bool, true, false, not, ◌||◌, sym, refl}
use mathlib.Core.Bool.{false≢true}

pub false_is_not_true : {A : Type 0} → false ≡ true → A
false_is_not_true e = absurd (false≢true e)

-- `not s || t` is an implication
pub implies_of : (s t : Bool) → (s ≡ true → t ≡ true) → not s || t ≡ true
implies_of true t f = f refl
implies_of false t f = refl

pub implies_use : (s t : Bool) → not s || t ≡ true → s ≡ true → t ≡ true
implies_use true t h e = h
implies_use false t h e = false_is_not_true e

-- two tests that imply one another are equal
pub both_ways : (s t : Bool) → (s ≡ true → t ≡ true) → (t ≡ true → s ≡ true) → s ≡ t
both_ways true t f g = sym (f refl)
both_ways false true f g = g refl
both_ways false false f g = refl
