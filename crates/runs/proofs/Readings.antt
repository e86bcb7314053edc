-- Readings: settled by the well-founded model, of which there is one.
use Rattle.std.proofs.Common.{◌≡◌, ◌↔◌, sym, ap, subst}
use Rattle.rulings.specs.Points.{Points}
use Rattle.rulings.specs.Rulings.{has}
use Rattle.rulings.specs.declared.ruling.Ruling.{Ruling}
use Rattle.rulings.proofs.Bytes.{same_points}
use Rattle.semantics.specs.Meaning.{Meaning}
use Rattle.semantics.specs.WellFounded.{WellFounded}
use Rattle.semantics.proofs.Alternating.{least_pair_unique}
use Rattle.runs.specs.Law.{SameModel}

-- rulings with equal points are equal
same_ruling : (r r' : Ruling) → has r ≡ has r' → r ≡ r'
same_ruling r r' e = same_points r r' (λ a _. ap (λ (x : Points). x a) e)

-- the model of one book is that of another if a pair is the model of both
carried : (m m' : Meaning) (S P : Points) → WellFounded m S P → WellFounded m' S P → (S' P' : Points) → WellFounded m S' P' → WellFounded m' S' P'
carried m m' S P w w' S' P' v =
    let same = least_pair_unique m m S P S' P' w v in
    subst (λ (x : Points). WellFounded m' x P') same.0 (subst (λ (x : Points). WellFounded m' S x) same.1 w')

-- two readings are equal exactly if their books have the same model
pub same_reading : (m m' : Meaning) (sure possible sure' possible' : Ruling) →
    WellFounded m (has sure) (has possible) → WellFounded m' (has sure') (has possible') →
    ((sure ≡ sure') × (possible ≡ possible')) ↔ SameModel m m'
same_reading m m' s p s' p' w w' = (equal, models)
  where
    equal : (s ≡ s') × (p ≡ p') → SameModel m m'
    equal (e, e') =
        let v : WellFounded m' (has s) (has p) =
        subst (λ (x : Ruling). WellFounded m' (has x) (has p)) (sym e) (subst (λ (x : Ruling). WellFounded m' (has s') (has x)) (sym e') w') in
        λ S P. (carried m m' (has s) (has p) w v S P, carried m' m (has s) (has p) v w S P)

    models : SameModel m m' → (s ≡ s') × (p ≡ p')
    models same =
        let both = least_pair_unique m' m' (has s) (has p) (has s') (has p') ((same (has s) (has p)).0 w) w' in
        (same_ruling s s' both.0, same_ruling p p' both.1)
