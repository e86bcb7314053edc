use Rattle.std.proofs.Common.{◌≡◌, Bool, true, false, ◌&&◌, ltb, eqb, refl, ◌∙◌}
use Rattle.chapters.specs.Table.{chapter_of}
use Rattle.chapters.proofs.chapters.Chapters.points_of.Goals as goal

twice : (s t : Bool) → s && (s && t) ≡ s && t
twice true t = refl
twice false t = refl

pub returns : goal.returns
returns c a = c.points_below.ensures a ∙ twice (ltb a 128) (eqb (chapter_of c.args.self.now a) c.args.chapter)
