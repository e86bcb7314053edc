-- A judging: what it told, and the reply to that; a denial is passed on.
use Rattle.std.proofs.Common.{◌∷◌, Ok, Err, ℕ, List, refl, subst}
use Rattle.runs.specs.Told.{verdict, chapter_verdict, denied}
use Rattle.reader.specs.Writing.{WroteAll}
use Rattle.reader.proofs.Outcomes.{passed_on, carried}
use Rattle.reader.proofs.replies.carry_out.Goals as goal

pub returns-in_err-judge-in-Judge : goal.returns-in_err-judge-in-Judge
returns-in_err-judge-in-Judge g c =
    let why = c.in_err-judge-in-Judge.field-0.0 in
    let s = c.args.marker.now in
    let found = c.args.reply.now in
    carried g.B.Book c.args.call _ s s (denied why) found c.from_residual.result found c.in-Judge.is
    (Err why, refl, c.in_err-judge-in-Judge.ensures.judged, refl) (passed_on c.from_residual.result why found c.from_residual.ensures.1)

pub returns-in_ok-judge-in-Judge : goal.returns-in_ok-judge-in-Judge
returns-in_ok-judge-in-Judge g c =
    let v = c.in_ok-judge-in-Judge.field-0 in
    let s = c.args.marker.now in
    let found = c.args.reply.now in
    let left = c.verdict.new.reply in
    carried g.B.Book c.args.call _ s s (verdict v) found (Ok c.verdict.result) left c.in-Judge.is
    (Ok v, refl, c.in_ok-judge-in-Judge.ensures.judged, refl)
    (λ o. subst (λ (xs : List ℕ). WroteAll (130 ∷ xs) found c.verdict.result left) c.told.ensures c.verdict.ensures)

pub returns-in_err-judge_by_chapter-in-JudgeByChapter : goal.returns-in_err-judge_by_chapter-in-JudgeByChapter
returns-in_err-judge_by_chapter-in-JudgeByChapter g c =
    let why = c.in_err-judge_by_chapter-in-JudgeByChapter.field-0.0 in
    let passed = c.from_residual-in_err-judge_by_chapter-in-JudgeByChapter in
    let s = c.args.marker.now in
    let found = c.args.reply.now in
    carried g.B.Book c.args.call _ s s (denied why) found passed.result found c.in-JudgeByChapter.is
    (Err why, refl, c.in_err-judge_by_chapter-in-JudgeByChapter.ensures.judged, refl) (passed_on passed.result why found passed.ensures.1)

pub returns-in_ok-judge_by_chapter-in-JudgeByChapter : goal.returns-in_ok-judge_by_chapter-in-JudgeByChapter
returns-in_ok-judge_by_chapter-in-JudgeByChapter g c =
    let v = c.in_ok-judge_by_chapter-in-JudgeByChapter.field-0 in
    let written = c.verdict-in-JudgeByChapter in
    let s = c.args.marker.now in
    let found = c.args.reply.now in
    let left = written.new.reply in
    carried g.B.Book c.args.call _ s s (chapter_verdict v) found (Ok written.result) left c.in-JudgeByChapter.is
    (Ok v, refl, c.in_ok-judge_by_chapter-in-JudgeByChapter.ensures.judged, refl)
    (λ o. subst (λ (xs : List ℕ). WroteAll (130 ∷ xs) found written.result left) c.told-in-JudgeByChapter.ensures written.ensures)
