-- The part has no point of 128 or above, as the ruling has none.
use Rattle.std.proofs.Common.{arith, rules}
use Rattle.std.proofs.lemmas.Bool.{and_right}
use mathlib.Core.Path.{fun_ext}
use Rattle.rulings.proofs.Bytes.{has_past}
use Rattle.chapters.proofs.Picked.{picked_all}
use Rattle.chapters.proofs.chapters.Chapters.part_below.Goals as goal

pub returns : goal.returns
returns c =
    fun_ext (picked_all c.points_where.ensures _ (λ a b h k. search rules) (omega arith)
    (λ a h. and_right _ _ (has_past c.args.ruling a h)))
