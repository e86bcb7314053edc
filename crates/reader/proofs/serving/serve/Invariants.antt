-- So far: the reader is in the input, the buffer is as long as it was, and the stream is under way; nothing is done to an input
-- that is too long.
use Rattle.std.proofs.Common.{◌≡◌, ◌-◌, ◌<◌, [], length, vec_items}
use Rattle.reader.proofs.Streaming.{UnderWay}
use Rattle.reader.proofs.serving.serve.Given as goal

abbrev pub invariant-loop-length : goal.invariant-loop-length
invariant-loop-length g l =
    (l.reader.input.now ≡ l.input) × (length l.reply ≡ 1095)
    × (32768 < length l.input → (vec_items l.replies ≡ []) × (l.marker ≡ l.initial.marker))
    × UnderWay g.B.Book l.initial.marker l.input l.reader.place (vec_items l.replies) l.marker

abbrev pub decreases-loop-length : goal.decreases-loop-length
decreases-loop-length g l = length l.input - l.reader.place
