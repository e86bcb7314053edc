-- Verdicts: how the two tests at the lowest differing point decide, and that only a stable ruling is called stable.
use Rattle.std.proofs.Common.{◌≡◌, ℕ, Bool, true, false, ◌↔◌, Some, None, Ok, Err, Option, Result, sym, refl, ap, ◌∙◌, subst, arith}
use mathlib.Core.Bool.{xor}
use Rattle.rulings.specs.Points.{Points, Lowest}
use Rattle.rulings.specs.Rulings.{has}
use Rattle.rulings.specs.declared.ruling.Ruling.{Ruling}
use Rattle.rulings.proofs.Differences.{xor_itself}
use Rattle.semantics.specs.Meaning.{Meaning, Lawful}
use Rattle.semantics.specs.Chapters.{in_chapter, below_chapter, Fit, Sixteen, chapter, PartStable}
use Rattle.semantics.proofs.Splitting.{stable_splits}
use Rattle.semantics.specs.Closure.{IsClosure, Stable as StableIn}
use Rattle.answers.specs.declared.fault.Fault.{Fault}
use Rattle.answers.specs.Checks.{stray}
use Rattle.semantics.proofs.Tests.{false_is_not_true}
use Rattle.semantics.proofs.Closures.{unique}
use Rattle.answers.specs.declared.verdict.Verdict.{Verdict}
use Rattle.answers.specs.declared.verdict.Verdict.TheVariants.{Stable, Unfounded, Missing}
use Rattle.answers.specs.Verdicts.{verdict_number, is_stable}
use Rattle.marker.specs.Judging.{Compares, PartVerdict, ByChapter, Judged}

pub only_second : (s t : Bool) → xor s t ≡ true → s ≡ false → t ≡ true
unfolding xor
only_second true t h e = false_is_not_true (sym e)
only_second false true h e = refl
only_second false false h e = false_is_not_true h

-- equal sets have no lowest difference
no_lowest : {A : Type 0} (y X : Points) (a : ℕ) → y ≡ X → xor (y a) (X a) ≡ true → A
no_lowest y X a e h = false_is_not_true (sym (subst (λ (Z : Points). xor (y a) (Z a) ≡ false) e (xor_itself (y a))) ∙ h)

other_verdict : {A : Type 0} (v w : Verdict) → v ≡ w → (verdict_number v ≡ verdict_number w → ⊥) → A
other_verdict v w e n = absurd (n (ap verdict_number e))

-- the verdict is stable exactly if the ruling is stable
pub stable_verdict : (m : Meaning) (y X : Points) (v : Verdict) → IsClosure m y X → Compares y X v → (v ≡ Stable) ↔ StableIn m y
stable_verdict m y X Stable c e = (λ _. subst (IsClosure m y) (sym e) c, λ _. refl)
stable_verdict m y X (Unfounded a) c d =
    (λ e. other_verdict (Unfounded a) Stable e (λ n. absurd (omega arith)), λ s. no_lowest y X a (unique m y y X s c) d.0.0)
stable_verdict m y X (Missing a) c d =
    (λ e. other_verdict (Missing a) Stable e (λ n. absurd (omega arith)), λ s. no_lowest y X a (unique m y y X s c) d.0.0)

-- a verdict that is not called stable is not
pub unstable : (v : Verdict) → is_stable v ≡ false → v ≡ Stable → ⊥
unstable v h e = false_is_not_true (sym h ∙ ap is_stable e)

called_stable : (v : Verdict) → is_stable v ≡ true → v ≡ Stable
called_stable Stable h = refl
called_stable (Unfounded a) h = false_is_not_true h
called_stable (Missing a) h = false_is_not_true h

module _ (m : Meaning) (ch : ℕ → ℕ) (y : Points) where
  pub part_stable : (k : ℕ) (v : Verdict) → PartVerdict m ch y k v → is_stable v ≡ true → PartStable m ch y k
  part_stable k v (X, c, d) h =
      (stable_verdict (chapter m ch k (below_chapter ch k y) (below_chapter ch k y)) (in_chapter ch k y) X v c d).0 (called_stable v h)

  -- by the splitting theorem, the verdict by chapters is stable exactly if the ruling is stable in the book read whole
  pub by_chapter_agrees : Lawful m → Fit m ch → Sixteen ch → (v : Verdict) (at : Option ℕ) → ByChapter m ch y v at → (v ≡ Stable) ↔ StableIn m y
  by_chapter_agrees l fit few v None (e, all) = (λ _. (stable_splits m ch l fit few y).1 all, λ _. e)
  by_chapter_agrees l fit few v (Some k) (low, below, not_here, (X, c, d)) = (
    λ e. absurd (not_here e),
    λ s. (stable_verdict (chapter m ch k (below_chapter ch k y) (below_chapter ch k y)) (in_chapter ch k y) X v c d).1 ((stable_splits m ch l fit few y).0 s k low),
  )

pub same_verdict : (v w : Verdict) → ◌≡◌ {A = Result Verdict Fault} (Ok v) (Ok w) → v ≡ w
same_verdict v w e = cc

-- judging whole, where there is no stray point, says stable exactly of a stable ruling
pub judge_stable : (m : Meaning) (r : Ruling) (j : Result Verdict Fault) → Lowest (stray m.size (has r)) None → Judged m r j → (j ≡ Ok Stable) ↔ StableIn m (has r)
judge_stable m r (Err f) none (s, e, low) = false_is_not_true (sym (none s) ∙ low.0)
judge_stable m r (Ok v) none (_, (X, c, d)) =
    let decides = stable_verdict m (has r) X v c d in
    (λ e. decides.0 (same_verdict v Stable e), λ h. ap Ok (decides.1 h))
