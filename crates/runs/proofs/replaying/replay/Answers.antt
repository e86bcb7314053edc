-- Each call extends the history by one.
use Rattle.std.proofs.Common.{◌+◌, List, Result, [], ◌∷◌, ◌++◌, map, take, vec_items, sym, subst, arith}
use Rattle.std.proofs.lemmas.List.{take_all}
use Rattle.std.proofs.lemmas.Result.{err_from_is_err_and}
use Rattle.answers.specs.declared.fault.Fault.{Fault}
use Rattle.marker.specs.declared.marker.Marker.{Marker}
use Rattle.runs.specs.declared.answer.Answer.{Answer}
use Rattle.runs.specs.declared.call.Call.{Call}
use Rattle.runs.specs.History.{History}
use Rattle.runs.specs.Step.{marker_calls}
use Rattle.runs.specs.Told.{told}
use Rattle.runs.proofs.Chains.{nothing, extend_at}
use Rattle.runs.proofs.replaying.replay.Goals as goal

pub loop-call-init : goal.loop-call-init
loop-call-init g c =
    let s = c.args.marker.now in
    subst (λ (xs : List (Result Answer Fault)). History (marker_calls g.B.Book) s [] (map told xs) s) (sym c.new-answers.ensures.items) (nothing (marker_calls g.B.Book) s)

pub returns-in_err-answer : goal.returns-in_err-answer
returns-in_err-answer g c =
    let p = err_from_is_err_and c.from_residual.result c.from_residual.ensures.1 in
    let i = c.loop-call.call-index in
    let calls = c.args.calls.now in
    let ts = map told (vec_items c.loop-call.answers) in
    rw p.1 (i, ts, omega arith, subst (λ (e : Marker g.row.B.Denot). History (marker_calls g.B.Book) c.args.marker.now (take i calls) ts e) (sym c.in_err-answer.ensures) c.loop-call.invariant)

pub returns-in_err-push : goal.returns-in_err-push
returns-in_err-push g c =
    let p = err_from_is_err_and c.from_residual-in_err-push.result c.from_residual-in_err-push.ensures.1 in
    rw p.1 (
      c.loop-call.call-index + 1,
      map told (vec_items c.loop-call.answers ++ c.in_ok-answer.answer ∷ []),
      omega arith,
      extend_at (marker_calls g.B.Book) told c.args.calls.now c.loop-call.call-index c.call-item.result (vec_items c.loop-call.answers) c.in_ok-answer.answer c.loop-call.marker c.answer.new.marker
          (omega arith) c.call-item.is c.in_ok-answer.ensures c.loop-call.invariant,
    )

pub loop-call-preserved : goal.loop-call-preserved
loop-call-preserved g c =
    let i = c.loop-call.call-index in
    let calls = c.args.calls.now in
    subst (λ (xs : List (Result Answer Fault)). History (marker_calls g.B.Book) c.args.marker.now (take (i + 1) calls) (map told xs) c.answer.new.marker) (sym c.in_ok-push.ensures.items)
    (extend_at (marker_calls g.B.Book) told calls i c.call-item.result (vec_items c.loop-call.answers) c.in_ok-answer.answer c.loop-call.marker c.answer.new.marker
    (omega arith) c.call-item.is c.in_ok-answer.ensures c.loop-call.invariant)

pub returns : goal.returns
returns g c =
    let ts = map told (vec_items c.loop-call.answers) in
    subst (λ (cs : List Call). History (marker_calls g.B.Book) c.args.marker.now cs ts c.loop-call.marker) (take_all c.loop-call.call-index c.args.calls.now (omega arith)) c.loop-call.invariant
