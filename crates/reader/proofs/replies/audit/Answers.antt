-- The rows told are the rows written, behind their number; a denial is passed on.
use Rattle.std.proofs.Common.{◌≡◌, ◌≤◌, length, take, replicate, Ok, Err, refl, arith, rules}
use Rattle.std.proofs.lemmas.List.{length-take-le}
use Rattle.runs.specs.Told.{audit, denied}
use Rattle.reader.proofs.Outcomes.{passed_on}
use Rattle.reader.proofs.Writing.{behind, given_back}
use Rattle.reader.proofs.replies.audit.Goals as goal

pub returns-in_err-count : goal.returns-in_err-count
returns-in_err-count g c =
    let why = c.in_err-count.field-0.0 in (
      denied why,
      (Err why, replicate 64 c.default-rows.result, c.audit.new.rows, refl, refl, c.in_err-count.ensures, refl),
      passed_on c.from_residual.result why c.args.reply.now c.from_residual.ensures.1,
    )

pub returns : goal.returns
returns g c =
    let n = c.in_ok-count.count in
    let left = c.audit.new.rows in
    let told = c.in_ok-count.ensures in
    let few : n ≤ 64 = told.0 in
    let number : length (take n left) ≡ n = length-take-le n left (omega (arith, c.audit.auto.rows)) in
    let two = behind c.new.ensures.holds c.with.ensures.adds c.to_le_bytes.ensures in (
      audit (take n left),
      (Ok n, replicate 64 c.default-rows.result, left, refl, refl, told, refl),
      λ o. rw number (given_back (behind two c.with_rows.ensures.adds refl) (search rules)),
    )
