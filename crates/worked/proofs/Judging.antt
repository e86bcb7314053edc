-- Verdicts by computing.
use Rattle.std.proofs.Common.{◌≡◌, ℕ, Bool, true, false, not, ◌&&◌, ltb, leb, List, Some, None, Ok, Err, Option, Result, sym, refl, ap, ◌∙◌, subst, ap₂, inl, inr, arith, ltb-true, leb-true}
use mathlib.Core.Bool.{xor}
use Rattle.std.proofs.lemmas.Bool.{cases_order, not-true, and_parts, false_from_ne_true}
use Rattle.rulings.specs.Points.{Points, Lowest, listed}
use Rattle.rulings.specs.Rulings.{has}
use Rattle.semantics.specs.Meaning.{Meaning, Lawful}
use Rattle.semantics.specs.Closure.{IsClosure}
use Rattle.semantics.specs.Chapters.{in_chapter, below_chapter, Fit, chapter, PartStable}
use Rattle.semantics.proofs.Tests.{false_is_not_true}
use Rattle.semantics.proofs.Closures.{unique}
use Rattle.semantics.proofs.Splitting.{chapter_lawful}
use Rattle.semantics.proofs.StableTest.{stable_test, stable_test_tells}
use Rattle.answers.specs.Checks.{stray}
use Rattle.books.specs.Entries.{every_below}
use Rattle.books.specs.EntriesLemmas.{every_below_use}
use Rattle.answers.specs.declared.fault.Fault.{Fault}
use Rattle.answers.specs.declared.verdict.Verdict.{Verdict}
use Rattle.answers.specs.declared.verdict.ChapterVerdict.{ChapterVerdict}
use Rattle.answers.specs.declared.verdict.Verdict.TheVariants.{Stable, Unfounded, Missing}
use Rattle.answers.specs.Verdicts.{is_stable}
use Rattle.chapters.proofs.Upward.{fitting}
use Rattle.marker.specs.Judging.{Compares, Judged, PartVerdict, ByChapter, JudgedByChapter}
use Rattle.marker.proofs.Verdicts.{unstable, stable_verdict}
use Rattle.worked.specs.Answers.{GivesVerdict, GivesVerdictByChapter}
use Rattle.worked.proofs.Once.{verdict_once}
use Rattle.worked.proofs.Checks.{Within, within, within_use, closes, closes_use, fits, fits_use}

-- a is the lowest point on which the two sets differ
abbrev pub differ_first : Points → Points → ℕ → Bool
differ_first y X a = xor (y a) (X a) && every_below a (λ b. not (xor (y b) (X b)))

differ_first_use : (y X : Points) (a : ℕ) → differ_first y X a ≡ true → Lowest (λ b. xor (y b) (X b)) (Some a)
differ_first_use y X a h =
    let p = and_parts (xor (y a) (X a)) _ h in
    (p.0, λ b l. not-true (xor (y b) (X b)) (every_below_use a (λ c. not (xor (y c) (X c))) p.1 b l))

-- the verdict, other than stable, on y beside its closure X
abbrev pub compares : Points → Points → Verdict → Bool
compares y X Stable = false
compares y X (Unfounded a) = differ_first y X a && y a
compares y X (Missing a) = differ_first y X a && X a

compares_use : (y X : Points) (v : Verdict) → compares y X v ≡ true → Compares y X v
compares_use y X Stable h = false_is_not_true h
compares_use y X (Unfounded a) h = let p = and_parts (differ_first y X a) (y a) h in (differ_first_use y X a p.0, p.1)
compares_use y X (Missing a) h = let p = and_parts (differ_first y X a) (X a) h in (differ_first_use y X a p.0, p.1)

compares_unstable : (y X : Points) (v : Verdict) → compares y X v ≡ true → is_stable v ≡ false
compares_unstable y X Stable h = false_is_not_true h
compares_unstable y X (Unfounded a) h = refl
compares_unstable y X (Missing a) h = refl

no_stray : (n : ℕ) (x : Points) → Within n x → Lowest (stray n x) None
no_stray n x p a =
    false_from_ne_true (leb n a && x a) (λ h. let q = and_parts (leb n a) (x a) h in
    let i = p a q.1 in let j = leb-true n a q.0 in absurd (omega arith))

module _ (m : Meaning) (points X : List ℕ) (v : Verdict) where
  -- the verdict on the points is v, beside their closure X
  abbrev pub judge_check : Bool
  judge_check =
      within m.size points && (within m.size X && (closes m (listed points) (listed X) && compares (listed points) (listed X) v))

  judge_compares : judge_check ≡ true → compares (listed points) (listed X) v ≡ true
  judge_compares h =
      let p = and_parts (within m.size points) _ h in
      let q = and_parts (within m.size X) _ p.1 in
      (and_parts (closes m (listed points) (listed X)) _ q.1).1

  pub judges : Lawful m → judge_check ≡ true → GivesVerdict m points v
  unfolding GivesVerdict
  judges l h y e r = (only r, λ is. subst (Judged m y) (sym is) there)
    where
      Said : Points → Type 0
      Said z = Lowest (stray m.size z) None × ((Z : Points) × IsClosure m z Z × Compares z Z v)

      said : Said (listed points)
      said =
          let p = and_parts (within m.size points) _ h in
          let q = and_parts (within m.size X) _ p.1 in
          let s = and_parts (closes m (listed points) (listed X)) _ q.1 in (
            no_stray m.size (listed points) (within_use m.size points p.0),
            (
              listed X,
              closes_use m l (listed points) (listed X) (within_use m.size X q.0) s.0,
              compares_use (listed points) (listed X) v s.1,
            ),
          )

      there : Judged m y (Ok v)
      there = subst Said (sym e) said

      unstable_here : is_stable v ≡ false
      unstable_here = compares_unstable (listed points) (listed X) v (judge_compares h)

      only : (j : Result Verdict Fault) → Judged m y j → j ≡ Ok v
      only (Err f) (s, _, low) = false_is_not_true (sym (there.0 s) ∙ low.0)
      only (Ok w) (none, (Z, c, d)) =
          ap Ok (verdict_once m (has y) there.1.0 v w there.1.1 unstable_here there.1.2
          (subst (λ (Q : Points). Compares (has y) Q w) (unique m (has y) Z there.1.0 c there.1.1) d))

module _ (m : Meaning) (ch : ℕ → ℕ) (points : List ℕ) (k : ℕ) (X : List ℕ) (v : Verdict) where
  -- chapter k over the points in the lower chapters
  abbrev pub chapter_at : Meaning
  chapter_at = chapter m ch k (below_chapter ch k (listed points)) (below_chapter ch k (listed points))

  -- the parts in the chapters below k are stable, and the verdict on the part in chapter k is v, beside its closure X
  abbrev pub part_check : Bool
  part_check =
      closes chapter_at (in_chapter ch k (listed points)) (listed X) && compares (in_chapter ch k (listed points)) (listed X) v

  abbrev pub chapter_check : Bool
  chapter_check =
      within m.size points && (within m.size X && (fits m ch && (ltb k 16 &&
      (every_below k (λ j. stable_test m ch j (below_chapter ch j (listed points)) (in_chapter ch j (listed points))) && part_check))))

  pub judges_by_chapter : Lawful m → chapter_check ≡ true → GivesVerdictByChapter m ch points v k
  unfolding GivesVerdictByChapter
  judges_by_chapter l h y e r = (only r, λ is. subst (JudgedByChapter m ch y) (sym is) there)
    where
      Said : Points → Type 0
      Said z = Lowest (stray m.size z) None × Fit m ch × ByChapter m ch z v (Some k)

      said : Said (listed points)
      said =
          let p = and_parts (within m.size points) _ h in
          let q = and_parts (within m.size X) _ p.1 in
          let f = and_parts (fits m ch) _ q.1 in
          let low = and_parts (ltb k 16) _ f.1 in
          let s = and_parts (every_below k (λ j. stable_test m ch j (below_chapter ch j (listed points)) (in_chapter ch j (listed points)))) _ low.1 in
          let t = and_parts (closes chapter_at (in_chapter ch k (listed points)) (listed X)) _ s.1 in (
            no_stray m.size (listed points) (within_use m.size points p.0),
            fits_use m l ch f.0,
            (
              ltb-true k 16 low.0,
              λ j i. (stable_test_tells m l ch j (listed points) (within_use m.size points p.0)).0
                  (every_below_use k (λ c. stable_test m ch c (below_chapter ch c (listed points)) (in_chapter ch c (listed points))) s.0 j i),
              unstable v (compares_unstable (in_chapter ch k (listed points)) (listed X) v t.1),
              (
                listed X,
                closes_use chapter_at
                    (chapter_lawful m l ch k (below_chapter ch k (listed points)) (below_chapter ch k (listed points)))
                    (in_chapter ch k (listed points)) (listed X) (within_use m.size X q.0) t.0,
                compares_use (in_chapter ch k (listed points)) (listed X) v t.1,
              ),
            ),
          )

      answer : Verdict → Option ℕ → Result ChapterVerdict Fault
      answer w at = Ok (record { verdict = w; chapter = at })

      there : JudgedByChapter m ch y (answer v (Some k))
      there = subst Said (sym e) said

      unstable_here : is_stable v ≡ false
      unstable_here = unstable_verdict v there.2.2
        where
          unstable_verdict : (w : Verdict) → (w ≡ Stable → ⊥) → is_stable w ≡ false
          unstable_verdict Stable n = absurd (n refl)
          unstable_verdict (Unfounded a) n = refl
          unstable_verdict (Missing a) n = refl

      part : ℕ → Meaning
      part j = chapter m ch j (below_chapter ch j (has y)) (below_chapter ch j (has y))

      -- a part that is not called stable is not
      not_stable : (j : ℕ) (w : Verdict) → (w ≡ Stable → ⊥) → PartVerdict m ch (has y) j w → PartStable m ch (has y) j → ⊥
      not_stable j w n (Z, c, d) s = n ((stable_verdict (part j) (in_chapter ch j (has y)) Z w c d).1 s)

      chapter_once : (w : Verdict) (at : Option ℕ) → ByChapter m ch (has y) w at → answer w at ≡ answer v (Some k)
      chapter_once w None (_, all) = absurd (not_stable k v there.2.2 there.2.3 (all k there.2.0))
      chapter_once w (Some j) (low, below, n, p) =
          elim (cases_order j k) [
            | inl q ↦ ap₂ (λ (u : Verdict) (i : ℕ). answer u (Some i)) (same (subst (λ (i : ℕ). PartVerdict m ch (has y) i w) q p)) q
            | inr (inl q) ↦ absurd (not_stable j w n p (there.2.1 j q))
            | inr (inr q) ↦ absurd (not_stable k v there.2.2 there.2.3 (below k q))
          ]
        where
          same : PartVerdict m ch (has y) k w → w ≡ v
          same (Z, c, d) =
              let (X', c', d') = there.2.3 in
              verdict_once (part k) (in_chapter ch k (has y)) X' v w c' unstable_here d'
              (subst (λ (Q : Points). Compares (in_chapter ch k (has y)) Q w) (unique (part k) (in_chapter ch k (has y)) Z X' c c') d)

      only : (j : Result ChapterVerdict Fault) → JudgedByChapter m ch y j → j ≡ answer v (Some k)
      only (Err f) (inl (s, _, low)) = false_is_not_true (sym (there.0 s) ∙ low.0)
      only (Err f) (inr (_, u)) = fitting m ch f there.1 u
      only (Ok w) (_, _, by) = chapter_once w.verdict w.chapter by
