-- What an answer tells.
use Rattle.std.specs.Prelude.{ℕ, List, take, Ok, Err, vec_items, Result}
use Rattle.rulings.specs.declared.ruling.Ruling.{Ruling}
use Rattle.answers.specs.declared.fault.Fault.{Fault}
use Rattle.books.specs.Promise.{Outcome}
use Rattle.answers.specs.declared.audit.UpwardReading.{UpwardReading}
use Rattle.answers.specs.declared.listing.Listing.{Listing as Counts}
use Rattle.answers.specs.declared.verdict.Verdict.{Verdict}
use Rattle.answers.specs.declared.verdict.ChapterVerdict.{ChapterVerdict}
use Rattle.runs.specs.declared.answer.Answer.{Answer}
use Rattle.runs.specs.declared.answer.Answer.TheVariants as answered

-- Done, a verdict, a reading (sure and possible), a listing (its rows, and beside it the effort), an audit, or a denial.
-- An answer keeps its rows in a vector; what room that has to spare tells nothing.
pub data Told : Type 0 where
  done : Told
  verdict : Verdict → Told
  chapter_verdict : ChapterVerdict → Told
  reading : Ruling → Ruling → Told
  listing : List Ruling → ℕ → Told
  audit : List UpwardReading → Told
  denied : Fault → Told

abbrev pub answer_told : Answer → Told
answer_told answered.Done = done
answer_told (answered.Verdict v) = verdict v
answer_told (answered.ChapterVerdict v) = chapter_verdict v
answer_told (answered.Reading sure possible) = reading sure possible
answer_told (answered.Listing rows effort) = listing (vec_items rows) effort
answer_told (answered.Audit rows) = audit (vec_items rows)

-- what is told of a result: of its value, or that it was denied
abbrev pub result_told : {A : Type 0} → (A → Told) → Result A Fault → Told
result_told value_told (Ok a) = value_told a
result_told value_told (Err f) = denied f

abbrev pub told : Result Answer Fault → Told
told r = result_told answer_told r

-- what is told of the result of each of the marker's calls; the rows told are the ones written, as the call left them
abbrev pub outcome_told : Outcome → Told
outcome_told r = result_told (λ _. done) r

abbrev pub judgement_told : Result Verdict Fault → Told
judgement_told r = result_told verdict r

abbrev pub chapter_judgement_told : Result ChapterVerdict Fault → Told
chapter_judgement_told r = result_told chapter_verdict r

abbrev pub reading_told : Outcome → Ruling → Ruling → Told
reading_told r sure possible = result_told (λ _. reading sure possible) r

abbrev pub listing_told : Result Counts Fault → List Ruling → Told
listing_told r rows = result_told (λ l. listing (take l.rows rows) l.effort) r

abbrev pub audit_told : Result ℕ Fault → List UpwardReading → Told
audit_told r rows = result_told (λ n. audit (take n rows)) r
