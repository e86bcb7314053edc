-- The worked books, each by its check.
use Rattle.std.specs.List.{list_all}
use Rattle.std.proofs.Common.{◌≡◌, ℕ, true, ltb, List, [], ◌∷◌, refl, arith}
use mathlib.Core.Bool.{xor}
use Rattle.semantics.specs.Meaning.{Meaning, Lawful}
use Rattle.semantics.specs.Walk.{points_of, spread, levels, tries, completed}
use Rattle.semantics.proofs.Closures.{closure}
use Rattle.semantics.proofs.StableTest.{stable_test}
use Rattle.answers.specs.declared.fault.Refusal.TheVariants.{ReadsUpward}
use Rattle.answers.specs.declared.fault.Layer.TheVariants as layer
use Rattle.answers.specs.declared.verdict.Verdict.{Verdict}
use Rattle.answers.specs.declared.audit.UpwardReading.{UpwardReading}
use Rattle.answers.specs.Faults.{fault_of}
use Rattle.books.specs.Entries.{every_below}
use Rattle.books.specs.Lines.{Line}
use Rattle.worked.specs.Books.{OfRules, OfProtests, chapters}
use Rattle.worked.specs.Answers.{GivesListing, RefusesListing, GivesReading, GivesVerdict, GivesVerdictByChapter, GivesAudit}
use Rattle.worked.specs.Worked.{Worked}
use Rattle.worked.proofs.Checks.{sixteen_use}
use Rattle.worked.proofs.Written.{by_lines, of_rules, by_protests, of_protests}
use Rattle.worked.proofs.Standing.{rules_inside, some_rules, protests_inside, some_protests, tables_place}
use Rattle.worked.proofs.Judging.{judge_check, judges, chapter_check, judges_by_chapter}
use Rattle.worked.proofs.Reading.{climbed, read_check, reads}
use Rattle.worked.proofs.Listing.{list_check, lists}
use Rattle.worked.proofs.Auditing.{refuse_check, refuses, audit_check, audits}
use Rattle.worked.proofs.NewMarkers.{new_rules, new_protests}

-- ---- of every book that is so written, by a check of its lines

module _ (n : ℕ) (ls : List Line) (inside : rules_inside n ls ≡ true) where
  rules : (So : Meaning → Type 0) → (Lawful (by_lines n ls) → So (by_lines n ls)) → OfRules n ls So
  rules So h = record { some = some_rules n ls inside; each = of_rules n ls So h }

  judge_rules : (points X : List ℕ) (v : Verdict) → judge_check (by_lines n ls) points X v ≡ true → OfRules n ls (λ m. GivesVerdict m points v)
  judge_rules points X v h = rules (λ m. GivesVerdict m points v) (λ l. judges (by_lines n ls) points X v l h)

  module _ (ks : List ℕ) where
    judge_rules_by_chapter : (points : List ℕ) (k : ℕ) (X : List ℕ) (v : Verdict) → chapter_check (by_lines n ls) (chapters ks) points k X v ≡ true →
        OfRules n ls (λ m. GivesVerdictByChapter m (chapters ks) points v k)
    judge_rules_by_chapter points k X v h =
        rules (λ m. GivesVerdictByChapter m (chapters ks) points v k) (λ l. judges_by_chapter (by_lines n ls) (chapters ks) points k X v l h)

    refuse_rules : (a b : ℕ) → refuse_check (by_lines n ls) (chapters ks) a b ≡ true →
        OfRules n ls (λ m. RefusesListing m (chapters ks) (fault_of layer.Marker (ReadsUpward a b)))
    refuse_rules a b h =
        rules (λ m. RefusesListing m (chapters ks) (fault_of layer.Marker (ReadsUpward a b)))
        (λ l. refuses (by_lines n ls) (chapters ks) a b l h)

    audit_rules : (r : UpwardReading) → audit_check (by_lines n ls) (chapters ks) (r ∷ []) ≡ true → OfRules n ls (λ m. GivesAudit m (chapters ks) (r ∷ []))
    audit_rules r h =
        rules (λ m. GivesAudit m (chapters ks) (r ∷ []))
        (λ l. audits (by_lines n ls) (chapters ks) (r ∷ []) l (λ i j d p q. absurd (omega arith)) h)

    module _ (few : list_all (λ k. ltb k 16) ks ≡ true) where
      list_rules : (sets : List (List ℕ)) (effort : ℕ) → list_check (by_lines n ls) (chapters ks) sets effort ≡ true →
          OfRules n ls (λ m. GivesListing m (chapters ks) sets effort)
      list_rules sets effort h =
          rules (λ m. GivesListing m (chapters ks) sets effort) (λ l. lists (by_lines n ls) (chapters ks) l (sixteen_use ks few) sets effort h)

      read_rules : (turns : List (List ℕ × List ℕ)) (possible : List ℕ) → read_check (by_lines n ls) (chapters ks) turns possible ≡ true →
          OfRules n ls (λ m. GivesReading m (chapters ks) (climbed [] turns) possible)
      read_rules turns possible h =
          rules (λ m. GivesReading m (chapters ks) (climbed [] turns) possible)
          (λ l. reads (by_lines n ls) (chapters ks) turns possible l (sixteen_use ks few) h)

module _ (n : ℕ) (points : List ℕ) (pairs : List (ℕ × ℕ)) (inside : protests_inside n points pairs ≡ true) (ks : List ℕ) (few : list_all (λ k. ltb k 16) ks ≡ true) where
  protests : (So : Meaning → Type 0) → (Lawful (by_protests n points pairs) → So (by_protests n points pairs)) → OfProtests n points pairs So
  protests So h = record { some = some_protests n points pairs inside; each = of_protests n points pairs So h }

  list_protests : (sets : List (List ℕ)) (effort : ℕ) → list_check (by_protests n points pairs) (chapters ks) sets effort ≡ true →
      OfProtests n points pairs (λ m. GivesListing m (chapters ks) sets effort)
  list_protests sets effort h =
      protests (λ m. GivesListing m (chapters ks) sets effort)
      (λ l. lists (by_protests n points pairs) (chapters ks) l (sixteen_use ks few) sets effort h)

  read_protests : (turns : List (List ℕ × List ℕ)) (possible : List ℕ) → read_check (by_protests n points pairs) (chapters ks) turns possible ≡ true →
      OfProtests n points pairs (λ m. GivesReading m (chapters ks) (climbed [] turns) possible)
  read_protests turns possible h =
      protests (λ m. GivesReading m (chapters ks) (climbed [] turns) possible)
      (λ l. reads (by_protests n points pairs) (chapters ks) turns possible l (sixteen_use ks few) h)

-- each check computes to true; the books and what is said of them are taken from the statement
pub worked : Worked
unfolding xor every_below closure stable_test points_of spread levels tries completed
worked =
    record {
      tables_place = tables_place;
      example_lists = list_rules _ _ refl (0 ∷ 0 ∷ 1 ∷ 2 ∷ []) refl _ _ refl;
      example_lists_in_one_chapter = list_rules _ _ refl [] refl _ _ refl;
      example_reads = read_rules _ _ refl (0 ∷ 0 ∷ 1 ∷ 2 ∷ []) refl [] _ refl;
      example_misses_3 = judge_rules _ _ refl _ (0 ∷ 2 ∷ 3 ∷ []) _ refl;
      example_misses_3_in_chapter_2 = judge_rules_by_chapter _ _ refl (0 ∷ 0 ∷ 1 ∷ 2 ∷ []) _ _ (3 ∷ []) _ refl;
      example_unfounded = judge_rules _ _ refl _ [] _ refl;
      circle_lists = list_rules _ _ refl [] refl _ _ refl;
      circle_unfounded = judge_rules _ _ refl _ [] _ refl;
      paradox_lists = list_rules _ _ refl [] refl _ _ refl;
      paradox_reads = read_rules _ _ refl [] refl [] _ refl;
      one_rule_unfounded = judge_rules _ _ refl _ [] _ refl;
      one_rule_unfounded_by_chapter = judge_rules_by_chapter _ _ refl (1 ∷ 0 ∷ []) _ _ [] _ refl;
      one_rule_refused = refuse_rules _ _ refl (0 ∷ 1 ∷ []) _ _ refl;
      one_rule_audited = audit_rules _ _ refl (0 ∷ 1 ∷ []) _ refl;
      upward_told = (refl, refl, refl);
      both_reads = read_rules _ _ refl (0 ∷ 0 ∷ 1 ∷ []) refl [] _ refl;
      both_lists = list_rules _ _ refl (0 ∷ 0 ∷ 1 ∷ []) refl _ _ refl;
      protesting_reads = read_protests _ _ _ refl [] refl ((0 ∷ 1 ∷ 2 ∷ [], 0 ∷ []) ∷ (0 ∷ 2 ∷ [], 0 ∷ 2 ∷ []) ∷ []) _ refl;
      new_rules_list = new_rules _ _ (list_rules _ _ refl [] refl _ _ refl);
      new_protests_list = new_protests _ _ (list_protests _ _ _ refl [] refl _ _ refl);
    }
