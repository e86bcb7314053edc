use Rattle.std.proofs.Common.{sym}
use mathlib.Core.Path.{fun_ext}
use Rattle.rulings.specs.Rulings.{has}
use Rattle.rulings.proofs.Differences.{xor_apart}
use Rattle.marker.proofs.Verdicts.{only_second}
use Rattle.marker.proofs.marker.judging.compare.Goals as goal

pub returns-in-None : goal.returns-in-None
returns-in-None c = fun_ext (λ a. xor_apart (has c.args.ruling a) (has c.args.closure a) (c.in-None.ensures a))

pub returns-in-Some-2 : goal.returns-in-Some-2
returns-in-Some-2 c =
    let low = c.in-Some.ensures in
    (low, only_second (has c.args.ruling c.in-Some.point) (has c.args.closure c.in-Some.point) low.0 (sym c.if-has.ensures))
