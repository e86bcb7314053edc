-- What the reader has left, as far as it was to be read.
use Rattle.service.proofs.Reaching.{read_as}
use Rattle.service.proofs.read_input.Goals as goal

pub returns : goal.returns
returns g c =
    read_as g.R.Read.remaining c.take.result c.args.reader 32769 c.new-input.result.items c.read_to_end.new.buf.items c.take.ensures.limit c.take.ensures.inner c.new-input.ensures.items
    c.in_ok-read_to_end.ensures.bytes
