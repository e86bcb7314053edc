-- The rows told are the rows written, behind their number and the effort; a denial is passed on.
use Rattle.std.proofs.Common.{◌≡◌, ◌≤◌, length, take, replicate, Ok, Err, refl, ◌∙◌, arith, rules}
use Rattle.std.proofs.lemmas.List.{length-take-le}
use Rattle.runs.specs.Told.{listing, denied}
use Rattle.reader.proofs.Outcomes.{passed_on, four_bytes}
use Rattle.reader.proofs.Writing.{behind, given_back}
use Rattle.reader.proofs.replies.list.Goals as goal

pub returns-in_err-listing : goal.returns-in_err-listing
returns-in_err-listing g c =
    let why = c.in_err-listing.field-0.0 in (
      denied why,
      (Err why, replicate 64 c.empty-rows.result, c.list.new.rows, refl, refl, c.in_err-listing.ensures, refl),
      passed_on c.from_residual.result why c.args.reply.now c.from_residual.ensures.1,
    )

pub returns : goal.returns
returns g c =
    let l = c.in_ok-listing.listing in
    let left = c.list.new.rows in
    let told = c.in_ok-listing.ensures in
    let few : l.rows ≤ 64 = told.4 in
    let number : length (take l.rows left) ≡ l.rows = length-take-le l.rows left (omega (arith, c.list.auto.rows)) in
    let two = behind c.new.ensures.holds c.with.ensures.adds c.to_le_bytes.ensures in
    let four = behind two c.with-2.ensures.adds (c.to_le_bytes-2.ensures ∙ four_bytes l.effort) in (
      listing (take l.rows left) l.effort,
      (Ok l, replicate 64 c.empty-rows.result, left, refl, refl, told, refl),
      λ o. rw number (given_back (behind four c.with_rows.ensures.adds refl) (search rules)),
    )
