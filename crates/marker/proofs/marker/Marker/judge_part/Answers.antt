-- The closure was found in the book restricted to the chapter's points, which is the chapter.
use Rattle.std.proofs.Common.{◌≡◌, ℕ, eqb, subst}
use Rattle.rulings.specs.Points.{Points}
use Rattle.rulings.specs.Rulings.{has}
use Rattle.semantics.specs.Meaning.{Meaning, Lawful}
use Rattle.semantics.specs.Closure.{IsClosure}
use Rattle.semantics.specs.Chapters.{in_chapter, below_chapter, restricted, chapter}
use Rattle.semantics.proofs.Restricting.{restricted_alike, same_closure}
use Rattle.answers.specs.declared.verdict.Verdict.{Verdict}
use Rattle.marker.specs.Judging.{Compares, PartVerdict}
use Rattle.chapters.specs.Table.{chapter_of}
use Rattle.chapters.proofs.Numbers.{points_of_chapter}
use Rattle.marker.proofs.marker.Marker.judge_part.Goals as goal

part_verdict : (m : Meaning) → Lawful m → (ch : ℕ → ℕ) (k : ℕ) (y D part lower X : Points) (v : Verdict) → (restricted m D lower lower).derives ≡ (chapter m ch k lower lower).derives →
    part ≡ in_chapter ch k y → lower ≡ below_chapter ch k y → IsClosure (restricted m D lower lower) part X → Compares part X v → PartVerdict m ch y k v
part_verdict m l ch k y D part lower X v alike p q c d = (
  X,
  subst (λ (z : Points). IsClosure (chapter m ch k z z) (in_chapter ch k y) X) q
      (subst (λ (z : Points). IsClosure (chapter m ch k lower lower) z X) p (same_closure (restricted m D lower lower) (chapter m ch k lower lower) alike part X c)),
  subst (λ (z : Points). Compares z X v) p d,
)

pub returns : goal.returns
returns g c =
    let s = c.args.self.now in
    let m = g.B.Book.meaning s.book in
    let l = g.met.B.Book.lawful s.book in
    let lower = has c.part_below-lower.result in
    let D = has c.points_of.result in
    part_verdict m l (chapter_of s.chapters) c.args.number (has c.args.ruling) D (has c.part_in-part.result) lower (has c.closure.result) c.compare.result
    (restricted_alike m l D (λ a. eqb (chapter_of s.chapters a) c.args.number) lower lower
    (points_of_chapter s.chapters c.args.number m.size c.points_of.result l.few_points c.points_of.ensures))
    c.part_in-part.ensures c.part_below-lower.ensures (let o = c.over-chapter.ensures in simp (o.book, o.points, o.supporters, o.strikers) at c.closure.ensures) c.compare.ensures
