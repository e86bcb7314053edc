use Rattle.std.proofs.Common.{rules}
use Rattle.chapters.proofs.Picked.{picked_is}
use Rattle.chapters.proofs.chapters.Chapters.points_below.Goals as goal

pub returns : goal.returns
returns c = picked_is c.points_where.ensures _ (λ a b h k. search rules)
