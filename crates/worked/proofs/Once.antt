-- What is settled: the verdict beside a closure, and rulings by their points.
use Rattle.std.proofs.Common.{◌≡◌, ℕ, Bool, true, false, List, [], ◌∷◌, map, sym, refl, ap, ◌∙◌, arith}
use mathlib.Core.Bool.{xor}
use Rattle.rulings.specs.Points.{Points}
use Rattle.rulings.specs.Rulings.{has}
use Rattle.rulings.specs.declared.ruling.Ruling.{Ruling}
use Rattle.rulings.proofs.Bytes.{same_points}
use Rattle.semantics.specs.Meaning.{Meaning}
use Rattle.semantics.specs.Closure.{IsClosure}
use Rattle.semantics.proofs.Tests.{false_is_not_true}
use Rattle.answers.specs.declared.verdict.Verdict.{Verdict}
use Rattle.answers.specs.declared.verdict.Verdict.TheVariants.{Stable, Unfounded, Missing}
use Rattle.answers.specs.Verdicts.{is_stable}
use Rattle.books.specs.Faults.{one_lowest}
use Rattle.marker.specs.Judging.{Compares}
use Rattle.marker.proofs.Verdicts.{stable_verdict, unstable}

clash : {A : Type 0} (s t : Bool) → xor s t ≡ true → s ≡ true → t ≡ true → A
unfolding xor
clash true true h p q = false_is_not_true h
clash true false h p q = false_is_not_true q
clash false t h p q = false_is_not_true p

-- a verdict that is not stable is the only one beside the closure
pub verdict_once : (m : Meaning) (y X : Points) (v w : Verdict) → IsClosure m y X → is_stable v ≡ false → Compares y X v → Compares y X w → w ≡ v
verdict_once m y X Stable w c h d d' = false_is_not_true (sym h)
verdict_once m y X (Unfounded a) Stable c h d d' =
    absurd (unstable (Unfounded a) h ((stable_verdict m y X (Unfounded a) c d).1 ((stable_verdict m y X Stable c d').0 refl)))
verdict_once m y X (Missing a) Stable c h d d' =
    absurd (unstable (Missing a) h ((stable_verdict m y X (Missing a) c d).1 ((stable_verdict m y X Stable c d').0 refl)))
verdict_once m y X (Unfounded a) (Unfounded b) c h d d' = ap Unfounded (one_lowest (λ e. xor (y e) (X e)) b a d'.0 d.0)
verdict_once m y X (Missing a) (Missing b) c h d d' = ap Missing (one_lowest (λ e. xor (y e) (X e)) b a d'.0 d.0)
verdict_once m y X (Unfounded a) (Missing b) c h d d' =
    clash (y a) (X a) d.0.0 d.1 (ap X (one_lowest (λ e. xor (y e) (X e)) a b d.0 d'.0) ∙ d'.1)
verdict_once m y X (Missing a) (Unfounded b) c h d d' =
    clash (y a) (X a) d.0.0 (ap y (one_lowest (λ e. xor (y e) (X e)) a b d.0 d'.0) ∙ d'.1) d.1

-- rulings with the same points are the same
pub same_rulings : (xs ys : List Ruling) → map has xs ≡ map has ys → xs ≡ ys
same_rulings [] [] e = refl
same_rulings [] (y ∷ ys) e = let z : ◌≡◌ {A = List Points} [] (has y ∷ map has ys) = e in absurd (let n : ◌≡◌ {A = ℕ} 0 1 = cc in omega arith)
same_rulings (x ∷ xs) [] e = let z : ◌≡◌ {A = List Points} (has x ∷ map has xs) [] = e in absurd (let n : ◌≡◌ {A = ℕ} 0 1 = cc in omega arith)
same_rulings (x ∷ xs) (y ∷ ys) e =
    let first : has x ≡ has y = cc in
    let later : map has xs ≡ map has ys = cc in
    let p : x ≡ y = same_points x y (λ a _. ap (λ (z : Points). z a) first) in
    let q : xs ≡ ys = same_rulings xs ys later in
    cc
