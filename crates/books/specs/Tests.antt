-- Boolean tests as facts, beside those of the theory.
use Rattle.std.specs.Prelude.{◌≡◌, Bool, true, false, not, ◌&&◌, ◌||◌, refl}
use Rattle.std.proofs.Common.{sym, ap, ◌∙◌}
use Rattle.semantics.proofs.Tests.{false_is_not_true}

-- `not (s && t)` is an implication too
pub nand_of : (s t : Bool) → (s ≡ true → t ≡ false) → not (s && t) ≡ true
nand_of true t f = ap not (f refl)
nand_of false t f = refl

pub nand_use : (s t : Bool) → not (s && t) ≡ true → s ≡ true → t ≡ false
nand_use true true h e = false_is_not_true h
nand_use true false h e = refl
nand_use false t h e = false_is_not_true e

-- where t implies s and s is false, t is false
pub contrapositive : (s t : Bool) → (t ≡ true → s ≡ true) → s ≡ false → t ≡ false
contrapositive s true f h = false_is_not_true (sym h ∙ f refl)
contrapositive s false f h = refl

-- a test that is false adds nothing, and takes nothing away
pub or_nothing : (s t : Bool) → t ≡ false → s || t ≡ s
or_nothing true t e = refl
or_nothing false t e = e

pub and_not_nothing : (s t : Bool) → t ≡ false → s && not t ≡ s
and_not_nothing true t e = ap not e
and_not_nothing false t e = refl
