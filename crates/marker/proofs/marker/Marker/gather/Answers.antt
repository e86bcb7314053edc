-- One pair of points after another: its row is put in if it reads upward, and there are more readings than rows where it finds no room.
use Rattle.std.proofs.Common.{◌≡◌, ℕ, ◌+◌, List, None, Option, take, sym, subst, arith, rules}
use Rattle.semantics.specs.Meaning.{Meaning}
use Rattle.answers.specs.declared.audit.UpwardReading.{UpwardReading}
use Rattle.marker.specs.Audit.{MoreUpward, Gathers}
use Rattle.marker.specs.State.{book_of, placing}
use Rattle.marker.proofs.Gathering.{Gathering, gathering_in, gathering_out, gathering_next, gathered_all, no_room}
use Rattle.marker.proofs.marker.Marker.gather.Goals as goal
use Rattle.marker.proofs.marker.Marker.gather.Goals.{then-reads_upward+in_ok-count, else-reads_upward}

pub returns-in_err-count : goal.returns-in_err-count
returns-in_err-count g c =
    let s = c.args.self.now in
    let m = g.B.Book.meaning (book_of s) in
    let none : c.from_residual.result ≡ None = search rules in
    subst (λ (r : Option ℕ). Gathers m (placing s) c.args.rows.now r c.insert_in_order.new.rows) (sym none)
    (subst (MoreUpward m (placing s)) (omega arith)
    (no_room m (placing s) (g.met.B.Book.lawful (book_of s)) c.loop-reader.reader c.loop-read.read
    c.args.rows.now c.loop-read.rows c.loop-read.count c.loop-read.invariant c.if-reads_upward.ensures c.in_err-count.ensures.0))

-- the same rows and count under other names
moved : (m : Meaning) (ch : ℕ → ℕ) (i j : ℕ) (found rows rows' : List UpwardReading) (n n' : ℕ) → rows' ≡ rows → n' ≡ n → Gathering m ch i j found rows n → Gathering m ch i j found rows' n'
moved m ch i j found rows rows' n n' e f h = rw (e, f) h

pub loop-read-preserved : goal.loop-read-preserved
loop-read-preserved g c =
    let s = c.args.self.now in
    let m = g.B.Book.meaning (book_of s) in
    let ch : ℕ → ℕ = placing s in
    let i = c.loop-reader.reader in
    let j = c.loop-read.read in
    let rows = c.loop-read.rows in
    let n = c.loop-read.count in
    elim c.if-reads_upward.branch [
      | then-reads_upward+in_ok-count w ↦
          moved m ch i (j + 1) c.args.rows.now w.insert_in_order.new.rows c.if-reads_upward.rows w.in_ok-count.count c.if-reads_upward.count w.rows-is w.count-is
          (gathering_in m ch i j c.args.rows.now rows n c.loop-read.invariant _ _ w.in_ok-count.count w.insert_in_order.new.rows
          w.of-then-reads_upward.ensures w.of.ensures w.if-reads_upward.ensures (omega arith) w.in_ok-count.ensures)
      | else-reads_upward w ↦
          moved m ch i (j + 1) c.args.rows.now rows c.if-reads_upward.rows n c.if-reads_upward.count w.rows-is w.count-is
          (gathering_out m ch i j c.args.rows.now rows n c.loop-read.invariant w.if-reads_upward.ensures)
    ]

pub loop-reader-preserved : goal.loop-reader-preserved
loop-reader-preserved g c =
    let s = c.args.self.now in
    gathering_next (g.B.Book.meaning (book_of s)) (placing s) (g.met.B.Book.lawful (book_of s)) c.loop-reader.reader c.loop-read.read
    c.args.rows.now c.loop-read.rows c.loop-read.count (omega (arith, c.size-read-end.ensures)) c.loop-read.invariant

pub returns : goal.returns
returns g c =
    let s = c.args.self.now in
    let h = c.loop-reader.invariant in (
      omega (arith, h.within),
      gathered_all (g.B.Book.meaning (book_of s)) (placing s) (g.met.B.Book.lawful (book_of s)) c.loop-reader.reader
          (take c.loop-reader.count c.loop-reader.rows) (omega (arith, c.size-reader-end.ensures)) h.first,
      h.later,
    )
