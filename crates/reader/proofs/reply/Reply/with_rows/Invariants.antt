-- The rows so far are added, and take as many bytes each; the buffer is the one that was lent.
use Rattle.std.proofs.Common.{◌≡◌, ◌+◌, ◌*◌, length, take}
use Rattle.std.specs.List.{flat_map}
use Rattle.reader.specs.Writing.{Adds}
use Rattle.reader.proofs.reply.Reply.with_rows.Given as goal

abbrev pub invariant-loop-row : goal.invariant-loop-row
invariant-loop-row g l =
    (l.self.buffer.ghost_name ≡ l.initial.self.buffer.ghost_name) × (length l.self.buffer.now ≡ length l.initial.self.buffer.now)
    × (l.self.length ≡ l.initial.self.length + g.R.ReplyRow.width * l.row-index)
    × Adds (flat_map g.R.ReplyRow.told (take l.row-index l.rows)) l.initial.self l.self
