-- The pair was found in the book restricted to the chapter's points, which is the chapter.
use Rattle.std.proofs.Common.{◌≡◌, ℕ, ◌<◌, eqb}
use mathlib.Core.Path.{fun_ext}
use Rattle.rulings.specs.Points.{Points}
use Rattle.rulings.specs.Rulings.{has}
use Rattle.semantics.specs.Chapters.{restricted, chapter}
use Rattle.semantics.proofs.Restricting.{restricted_alike, same_least_pair}
use Rattle.chapters.specs.Table.{chapter_of}
use Rattle.chapters.proofs.Numbers.{points_of_chapter}
use Rattle.marker.proofs.marker.Marker.read_chapter.Goals as goal

pub returns : goal.returns
returns g c =
    let s = c.args.self.now in
    let m = g.B.Book.meaning s.book in
    let l = g.met.B.Book.lawful s.book in
    let ch : ℕ → ℕ = chapter_of s.chapters in
    let k = c.args.number in
    let D = has c.points_of-points.result in
    let E : Points = λ a. eqb (ch a) k in
    let U = has c.args.below.sure in
    let V = has c.args.below.possible in
    let agree : (a : ℕ) → a < m.size → D a ≡ E a = points_of_chapter s.chapters k m.size c.points_of-points.result l.few_points c.points_of-points.ensures in (
      has c.least_pair-part.result.sure,
      has c.least_pair-part.result.possible,
      same_least_pair (restricted m D U V) (chapter m ch k U V) (restricted m D V U) (chapter m ch k V U)
          (restricted_alike m l D E U V agree) (restricted_alike m l D E V U agree)
          (has c.least_pair-part.result.sure) (has c.least_pair-part.result.possible) c.least_pair-part.ensures,
      fun_ext c.union.ensures,
      fun_ext c.union-2.ensures,
    )
