-- Each turn takes the stream further, ends it, or is refused for an input that is too long.
use Rattle.std.proofs.Common.{◌≡◌, [], ◌++◌, List, ℕ, take, vec_items, sym, refl, ap, ◌∙◌, subst, inl, inr, arith}
use Rattle.std.proofs.lemmas.Result.{err_from_is_err_and}
use Rattle.answers.specs.declared.fault.Fault.{Fault}
use Rattle.answers.specs.declared.fault.Refusal.TheVariants.{InputTooLong}
use Rattle.marker.specs.declared.marker.Marker.{Marker}
use Rattle.runs.proofs.CallKinds.{Promises}
use Rattle.reader.specs.Replies.{fault_reply}
use Rattle.reader.specs.Streams.{Stream, ServedSoFar}
use Rattle.reader.specs.StreamLaw.{LawfulStream}
use Rattle.reader.specs.Turns.{reader_fault}
use Rattle.reader.proofs.Streaming.{at_start, broken_off, not_begun, turned_on, turned_off, refused, written_there}
use Rattle.reader.proofs.StreamLaws.{stream_law}
use Rattle.reader.proofs.serving.serve.Given as given
use Rattle.reader.proofs.serving.serve.Goals as goal

promises : (g : given.Over) → Promises g.B.Book
promises g = record { lawful = g.met.B.Book.lawful; opens = g.met.B.Book.opens; enters = g.met.B.Book.enters; withdraws = g.met.B.Book.withdraws }

lawful : (g : given.Over) {s e : Marker g.row.B.Denot} {input output : List ℕ} → Stream g.B.Book s input output e → LawfulStream g.B.Book s input output e
lawful g X =
    let p = promises g in
    (X, stream_law g.B.Book g.B.Book p p X X, λ s' e' input' output' Y. stream_law g.B.Book g.B.Book p p X Y)

-- all that was put out is the denial
denial_alone : {out before reply : List ℕ} {why : Fault} → out ≡ before ++ reply → before ≡ [] → reply ≡ fault_reply 0 why → why ≡ reader_fault InputTooLong → out ≡ fault_reply 0 (reader_fault InputTooLong)
denial_alone {reply = reply} put none told is = put ∙ ap (λ xs. xs ++ reply) none ∙ told ∙ ap (fault_reply 0) is

pub loop-length-init : goal.loop-length-init
loop-length-init g c = (
  c.new-reader.ensures.input,
  refl,
  λ _. (c.new-replies.ensures.items, refl),
  at_start g.B.Book c.args.marker.now c.args.input.now c.new-reader.result.place (vec_items c.new-replies.result) c.new-reader.ensures.place c.new-replies.ensures.items,
)

pub loop-length-preserved : goal.loop-length-preserved
loop-length-preserved g c =
    let (further, within, small) = turned_on g.B.Book c.args.marker.now c.loop-length.invariant.0 c.loop-length.invariant.3 c.in-Ok-Some.length c.in-Ok-Some.field-0 c.in-Ok-Some.field-0-is c.in-Ok-Some.ensures.turned in (
      c.in-Ok-Some.ensures.input ∙ c.loop-length.invariant.0,
      omega (arith, c.turn.auto.reply, c.loop-length.invariant.1),
      λ long. absurd (omega arith),
      rw c.in_ok-extend_from_slice-in-Ok-Some.ensures.items further.on,
    )

pub returns-in_err-extend_from_slice-in-Ok-Some : goal.returns-in_err-extend_from_slice-in-Ok-Some
returns-in_err-extend_from_slice-in-Ok-Some g c =
    let p = err_from_is_err_and c.from_residual.result c.from_residual.ensures.1 in
    let (further, within, small) = turned_on g.B.Book c.args.marker.now c.loop-length.invariant.0 c.loop-length.invariant.3 c.in-Ok-Some.length c.in-Ok-Some.field-0 c.in-Ok-Some.field-0-is c.in-Ok-Some.ensures.turned in
    rw p.1
    (broken_off g.B.Book c.args.marker.now c.args.input.now c.turn.new.self.place (vec_items c.loop-length.replies ++ take c.in-Ok-Some.length c.turn.new.reply) c.turn.new.marker further.on)

-- a turn that found no record ends the stream
pub returns-in-Ok-None : goal.returns-in-Ok-None
returns-in-Ok-None g c =
    let (small, whole) = turned_off g.B.Book c.args.marker.now c.loop-length.invariant.0 c.loop-length.invariant.3 c.in-Ok-None.field-0 c.in-Ok-None.field-0-is c.in-Ok-None.ensures.turned in
    inr (small, lawful g whole)

-- a turn that was refused: the input is too long, and nothing was done
pub returns-in_err-extend_from_slice-in-Err : goal.returns-in_err-extend_from_slice-in-Err
returns-in_err-extend_from_slice-in-Err g c =
    let p = err_from_is_err_and c.from_residual-in_err-extend_from_slice-in-Err.result c.from_residual-in_err-extend_from_slice-in-Err.ensures.1 in
    let (long, _, same) = refused g.B.Book c.args.marker.now c.loop-length.invariant.0 c.loop-length.invariant.3 c.in-Err.fault (omega (arith, c.loop-length.invariant.1)) c.in-Err.ensures.turned in
    rw p.1 (subst (ServedSoFar g.B.Book c.args.marker.now c.args.input.now) (sym (same ∙ (c.loop-length.invariant.2 long).1)) (not_begun g.B.Book c.args.marker.now c.args.input.now))

pub returns-in-Err : goal.returns-in-Err
returns-in-Err g c =
    let (long, why, same) = refused g.B.Book c.args.marker.now c.loop-length.invariant.0 c.loop-length.invariant.3 c.in-Err.fault (omega (arith, c.loop-length.invariant.1)) c.in-Err.ensures.turned in
    let (nothing, untouched) = c.loop-length.invariant.2 long in
    inl (
      long,
      denial_alone c.in_ok-extend_from_slice-in-Err.ensures.items nothing (written_there c.denial-length.ensures) why,
      same ∙ untouched,
    )
