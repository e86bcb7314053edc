-- By what was read, how it was served, and how the writing went.
use Rattle.std.proofs.Common.{OnOk, vec_items, subst}
use Rattle.std.proofs.lemmas.Result.{err_from_is_err_and}
use Rattle.std.specs.Io.KnownBytes.{Appends}
use Rattle.reader.specs.Streams.{ServedSoFar}
use Rattle.reader.specs.StreamLaw.{Served}
use Rattle.service.proofs.Reaching.{untouched, in_part, written}
use Rattle.service.proofs.serve_through.Goals as goal

pub returns-in_err-input : goal.returns-in_err-input
returns-in_err-input g c =
    let p = err_from_is_err_and c.from_residual.result c.from_residual.ensures.1 in
    rw p.1 (untouched g.B.Book c.args.marker.now (g.R.Read.remaining c.args.reader) (g.W.Write.contents c.args.writer.now))

pub returns-in_err-replies : goal.returns-in_err-replies
returns-in_err-replies g c =
    let p = err_from_is_err_and c.from_residual-in_err-replies.result c.from_residual-in_err-replies.ensures.1 in
    let so_far = subst (λ xs. ServedSoFar g.B.Book c.args.marker.now xs c.serve.new.marker) c.deref.ensures.value c.in_err-replies.ensures in
    rw p.1
    (in_part g.B.Book c.args.marker.now c.serve.new.marker (vec_items c.in_ok-input.input) (g.R.Read.remaining c.args.reader) (g.W.Write.contents c.args.writer.now) c.in_ok-input.ensures so_far)

pub returns : goal.returns
returns g c =
    let served =
    subst (λ xs. Served g.B.Book c.args.marker.now xs (vec_items c.in_ok-replies.replies) c.serve.new.marker) c.deref.ensures.value c.in_ok-replies.ensures in
    let wrote =
    subst (λ xs. OnOk c.write_all.result (Appends (g.W.Write.contents c.args.writer.now) (g.W.Write.contents c.write_all.new.self) xs)) c.deref-2.ensures.value c.write_all.ensures.bytes in
    written g.B.Book c.args.marker.now c.serve.new.marker (vec_items c.in_ok-input.input) c.write_all.result (g.R.Read.remaining c.args.reader)
    (g.W.Write.contents c.args.writer.now) (g.W.Write.contents c.write_all.new.self) (vec_items c.in_ok-replies.replies) c.in_ok-input.ensures served wrote
