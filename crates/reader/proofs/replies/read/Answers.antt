-- What is sure and what is possible, as the marker's call left them; a denial is passed on.
use Rattle.std.proofs.Common.{Ok, Err, refl, rules}
use Rattle.runs.specs.Told.{reading, denied}
use Rattle.reader.proofs.Outcomes.{passed_on}
use Rattle.reader.proofs.Writing.{behind, given_back}
use Rattle.reader.proofs.replies.read.Goals as goal

pub returns-in_err-read : goal.returns-in_err-read
returns-in_err-read g c =
    let why = c.in_err-read.field-0.0 in (
      denied why,
      (Err why, c.empty-sure.result, c.empty-possible.result, c.read.new.sure, c.read.new.possible, refl, c.in_err-read.ensures, refl),
      passed_on c.from_residual.result why c.args.reply.now c.from_residual.ensures.1,
    )

pub returns : goal.returns
returns g c =
    let sure = c.read.new.sure in
    let possible = c.read.new.possible in (
      reading sure possible,
      (Ok tt, c.empty-sure.result, c.empty-possible.result, sure, possible, refl, c.in_ok-read.ensures, refl),
      λ o. given_back (behind (behind c.new.ensures.holds c.with.ensures.adds c.bytes.ensures) c.with-2.ensures.adds c.bytes-2.ensures) (search rules),
    )
