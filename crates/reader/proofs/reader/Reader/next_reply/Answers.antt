-- A record that was done, one that was denied, and what cannot be read: each with its reply.
use Rattle.std.proofs.Common.{◌≡◌, ℕ, List, Some, Ok, Err, Option, refl, ap, subst, rules}
use Rattle.answers.specs.declared.fault.Fault.{Fault}
use Rattle.reader.specs.declared.front.Record.{Record}
use Rattle.reader.specs.Records.{AtFront}
use Rattle.reader.specs.Replies.{fault_reply, reply_of}
use Rattle.reader.specs.Turns.{reader_fault}
use Rattle.reader.specs.Unreadable.{refusal_of}
use Rattle.reader.specs.Writing.{WroteAll}
use Rattle.reader.proofs.reader.Reader.next_reply.Goals as goal

-- the record that stands there, by its name
known : (xs : List ℕ) (found : Option Record) (r : Record) → found ≡ Some r → AtFront xs (Ok found) → AtFront xs (Ok (Some r))
known xs found r is stands = subst (λ (f : Option Record). AtFront xs (Ok f)) is stands

pub returns-in-Ok-clause-takes : goal.returns-in-Ok-clause-takes
returns-in-Ok-clause-takes g c =
    let at = c.args.self.now.place in
    let (t, does, replies) = c.in-Ok.ensures in (
      Some (reply_of at t),
      (Ok (Some c.in-Ok-Some.field-0-0), known _ _ _ c.in-Ok-Some.field-0-is c.in-Ok-Some.ensures.stands, (t, does, refl, refl)),
      (ap (λ (n : ℕ). Ok (Some n)) (replies at).count, (replies at).there),
    )

pub returns-in-Err-carry_out-clause-takes : goal.returns-in-Err-carry_out-clause-takes
returns-in-Err-carry_out-clause-takes g c =
    let at = c.args.self.now.place in
    let (t, does, (is, same)) = c.in-Err-carry_out.ensures in
    let wrote = subst (λ (xs : List ℕ). WroteAll (fault_reply at c.in-Err-carry_out.fault) xs c.denial.result c.denial.new.reply) same c.denial.ensures in (
      Some (reply_of at t),
      (Ok (Some c.in-Ok-Some.field-0-0), known _ _ _ c.in-Ok-Some.field-0-is c.in-Ok-Some.ensures.stands, (t, does, refl, refl)),
      rw is (ap (λ (n : ℕ). Ok (Some n)) wrote.count, wrote.there),
    )

pub returns-in-Err-clause-takes : goal.returns-in-Err-clause-takes
returns-in-Err-clause-takes g c =
    let at = c.args.self.now.place in
    let why = reader_fault (refusal_of c.in-Err.why) in
    let same : c.new.result ≡ why = search rules in
    let wrote = subst (λ (f : Fault). WroteAll (fault_reply at f) c.args.reply.now c.denial-in-Err.result c.denial-in-Err.new.reply) same c.denial-in-Err.ensures in (
      Some (fault_reply at why),
      (Err c.in-Err.why, c.in-Err.ensures.stands, (refl, refl, refl)),
      (ap (λ (n : ℕ). Ok (Some n)) wrote.count, wrote.there),
    )
