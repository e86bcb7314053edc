use Rattle.std.proofs.Common.{◌≡◌, ℕ, Some, None, Ok, Option, sym, refl, subst, arith, below_more}
use Rattle.rulings.specs.Rulings.{has}
use Rattle.rulings.specs.declared.ruling.Ruling.{Ruling}
use Rattle.semantics.specs.Meaning.{Meaning, Lawful}
use Rattle.semantics.specs.Chapters.{Fit, Sixteen, PartStable}
use Rattle.answers.specs.declared.verdict.Verdict.{Verdict}
use Rattle.answers.specs.declared.verdict.Verdict.TheVariants.{Stable}
use Rattle.answers.specs.declared.verdict.ChapterVerdict.{ChapterVerdict}
use Rattle.marker.specs.Judging.{NoStray, ByChapter, JudgedByChapter, AgreesWithWhole, AgreesWithJudge}
use Rattle.chapters.specs.Table.{chapter_of}
use Rattle.marker.proofs.Verdicts.{unstable, part_stable, by_chapter_agrees, judge_stable}
use Rattle.marker.proofs.marker.Marker.judge_by_chapter.Goals as goal

-- a call that is not denied: what was found by chapters, and by the splitting theorem of the whole
accepted : (m : Meaning) (ch : ℕ → ℕ) (r : Ruling) (v : ChapterVerdict) (verdict : Verdict) (at : Option ℕ) → Lawful m → Sixteen ch →
    NoStray m r → Fit m ch → v.verdict ≡ verdict → v.chapter ≡ at → ByChapter m ch (has r) verdict at →
    record { judged : JudgedByChapter m ch r (Ok v); agrees : AgreesWithWhole m r (Ok v); same : AgreesWithJudge m r (Ok v) }
accepted m ch r v verdict at l few clear fit e f found =
    let by : ByChapter m ch (has r) v.verdict v.chapter =
    subst (λ (w : Verdict). ByChapter m ch (has r) w v.chapter) (sym e) (subst (λ (k : Option ℕ). ByChapter m ch (has r) verdict k) (sym f) found) in
    let whole = by_chapter_agrees m ch (has r) l fit few v.verdict v.chapter by in
    record {
      judged = (clear, fit, by);
      agrees = whole;
      same = λ j h. let k = judge_stable m r j clear h in (λ q. k.1 (whole.0 q), λ q. whole.1 (k.0 q));
    }

pub returns-then-not-is_stable : goal.returns-then-not-is_stable
returns-then-not-is_stable g c =
    let s = c.args.self.now in
    accepted (g.B.Book.meaning s.book) (chapter_of s.chapters) c.args.ruling c.new.result c.judge_part-verdict.result (Some c.loop-chapter.chapter)
    (g.met.B.Book.lawful s.book) s.sixteen c.in_ok-refuse_strays.ensures.ok c.in_ok-refuse_upward_readings.ensures.ok
    c.new.ensures.verdict c.new.ensures.chapter
    (omega arith, c.loop-chapter.invariant, unstable c.judge_part-verdict.result (sym c.if-not-is_stable.ensures), c.judge_part-verdict.ensures)

pub loop-chapter-preserved : goal.loop-chapter-preserved
loop-chapter-preserved g c =
    let s = c.args.self.now in
    below_more (PartStable (g.B.Book.meaning s.book) (chapter_of s.chapters) (has c.args.ruling)) c.loop-chapter.chapter c.loop-chapter.invariant
    (part_stable (g.B.Book.meaning s.book) (chapter_of s.chapters) (has c.args.ruling) c.loop-chapter.chapter c.judge_part-verdict.result c.judge_part-verdict.ensures (sym c.if-not-is_stable.ensures))

pub returns : goal.returns
returns g c =
    let s = c.args.self.now in
    accepted (g.B.Book.meaning s.book) (chapter_of s.chapters) c.args.ruling c.from.result Stable None
    (g.met.B.Book.lawful s.book) s.sixteen c.in_ok-refuse_strays.ensures.ok c.in_ok-refuse_upward_readings.ensures.ok
    c.from.ensures.0 c.from.ensures.1
    (refl, λ k h. c.loop-chapter.invariant k (omega arith))
