use Rattle.std.proofs.Common.{ℕ, ◌+◌, sym, subst}
use Rattle.rulings.specs.Points.{Points, union}
use Rattle.rulings.specs.Rulings.{has}
use Rattle.semantics.specs.Meaning.{Meaning, Lawful}
use Rattle.chapters.specs.declared.reading.Reading.{Reading}
use Rattle.marker.specs.Reading.{AddsChapter}
use Rattle.chapters.specs.Table.{chapter_of}
use Rattle.marker.proofs.Upreading.{ReadBelow, read_more}
use Rattle.marker.proofs.marker.Marker.read_upward.Goals as goal

next : (m : Meaning) → Lawful m → (ch : ℕ → ℕ) (k : ℕ) (r r' : Reading) → ReadBelow m ch k (has r.sure) (has r.possible) →
    AddsChapter m ch k r r' → ReadBelow m ch (k + 1) (has r'.sure) (has r'.possible)
next m l ch k r r' below (S, P, pair, s, p) =
    subst (λ (x : Points). ReadBelow m ch (k + 1) x (has r'.possible)) (sym s)
    (subst (λ (x : Points). ReadBelow m ch (k + 1) (union (has r.sure) S) x) (sym p)
    (read_more m l ch k (has r.sure) (has r.possible) S P below pair))

pub loop-number-preserved : goal.loop-number-preserved
loop-number-preserved g c =
    let s = c.args.self.now in
    next (g.B.Book.meaning s.book) (g.met.B.Book.lawful s.book) (chapter_of s.chapters) c.loop-number.number c.loop-number.reading c.read_chapter-reading.result
    c.loop-number.invariant c.read_chapter-reading.ensures
