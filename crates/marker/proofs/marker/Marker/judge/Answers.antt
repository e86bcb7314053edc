use Rattle.std.proofs.Common.{Ok, ap}
use Rattle.rulings.specs.Rulings.{has}
use Rattle.answers.specs.declared.verdict.Verdict.TheVariants.{Stable}
use Rattle.marker.specs.State.{book_of}
use Rattle.marker.proofs.Verdicts.{stable_verdict, same_verdict}
use Rattle.marker.proofs.marker.Marker.judge.Goals as goal

pub returns-clause-stable : goal.returns-clause-stable
returns-clause-stable g c =
    let m = g.B.Book.meaning (book_of c.args.self.now) in
    let v = c.compare.result in
    let decides = stable_verdict m (has c.args.ruling) (has c.closure.result) v c.closure.ensures c.compare.ensures in
    (λ e. (c.in_ok-refuse_strays.ensures.ok, decides.0 (same_verdict v Stable e)), λ h. ap Ok (decides.1 h.1))
