-- A point of a ruling is below 128, so that the points of the chapter are all that matter.
use Rattle.std.proofs.Common.{◌≡◌, Bool, true, false, ◌&&◌, eqb, ltb, refl, ap, ◌∙◌, lt-ltb}
use mathlib.Core.Path.{fun_ext}
use Rattle.rulings.specs.Rulings.{has}
use Rattle.rulings.proofs.Bytes.{has_below}
use Rattle.chapters.specs.Table.{chapter_of}
use Rattle.chapters.proofs.chapters.Chapters.part_in.Goals as goal

low : (s t u : Bool) → (u ≡ true → s ≡ true) → (s && t) && u ≡ t && u
low s t true h = rw (h refl) refl
low true t false h = refl
low false true false h = refl
low false false false h = refl

pub returns : goal.returns
returns c = fun_ext (λ a.
    let inside : has c.args.ruling a ≡ true → ltb a 128 ≡ true = λ h. lt-ltb a 128 (has_below c.args.ruling a h) in
    c.intersection.ensures a
    ∙ (ap (λ (t : Bool). t && has c.args.ruling a) (c.points_of.ensures a)
    ∙ low (ltb a 128) (eqb (chapter_of c.args.self.now a) c.args.chapter) (has c.args.ruling a) inside))
