-- The rows lent are as many as asked for.
use Rattle.std.proofs.Common.{ℕ, sym, subst}
use Rattle.runs.specs.declared.call.Call.{Call}
use Rattle.runs.specs.Step.{call_does, Lists}
use Rattle.runs.specs.Told.{told}
use Rattle.runs.proofs.replaying.answer.Goals as goal

pub returns-in_ok-vec-in-List : goal.returns-in_ok-vec-in-List
returns-in_ok-vec-in-List g c =
    let s = c.args.marker.now in
    let t = told c.list.result in
    subst (λ (x : Call). call_does g.B.Book x s t s) (sym c.in-List.is)
    (subst (λ (n : ℕ). Lists g.B.Book.meaning n s t s) c.in_ok-vec-in-List.ensures.len c.list.ensures)
