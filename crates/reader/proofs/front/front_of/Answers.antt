-- A whole record stands there.
use Rattle.std.proofs.Common.{arith}
use Rattle.reader.proofs.Fronts.{whole}
use Rattle.reader.proofs.front.front_of.Goals as goal

pub returns-clause-stands : goal.returns-clause-stands
returns-clause-stands c =
    whole c.args.input.now c.args.place c.if-place-input.false c.in_ok-kind.kind c.call_of.result c.body_length-2.result c.in_ok-kind.ensures c.body_length-2.ensures
    (omega (arith, c.if-body-body_length.false, c.body_length.ensures)) c.call_of.ensures.lends c.call_of.ensures.record
