-- What the marker's call left in the two places is what is told; a denial is passed on.
use Rattle.std.proofs.Common.{Ok, Err, refl, ap, ◌∙◌}
use Rattle.std.proofs.lemmas.Result.{err_from_is_err_and}
use Rattle.runs.specs.Told.{told, denied}
use Rattle.runs.proofs.replaying.read.Goals as goal

pub returns-in_err-read : goal.returns-in_err-read
returns-in_err-read g c =
    let p = err_from_is_err_and c.from_residual.result c.from_residual.ensures.1 in
    (Err c.in_err-read.field-0.0, c.empty-sure.result, c.empty-possible.result, c.read.new.sure, c.read.new.possible, ap told p.1 ∙ ap denied p.2, c.in_err-read.ensures, refl)

pub returns : goal.returns
returns g c =
    (Ok tt, c.empty-sure.result, c.empty-possible.result, c.read.new.sure, c.read.new.possible, refl, c.in_ok-read.ensures, refl)
