-- The byte that is written fits, and adds the point.
use Rattle.std.proofs.Common.{ℕ, ◌/◌, set, ap}
use lib.Bits.{bit_or}
use Rattle.rulings.specs.Rulings.{byte}
use Rattle.rulings.proofs.Bytes.{mask_is, has_set}
use Rattle.rulings.proofs.ruling.Ruling.insert.Goals as goal

pub returns-then-point-lt128 : goal.returns-then-point-lt128
returns-then-point-lt128 c =
    let r = c.args.self.now in
    has_set r _ c.args.point c.if-point-lt128.true
    (ap (λ (n : ℕ). set r.bytes (c.args.point / 8) (bit_or (byte r (c.args.point / 8)) n)) (mask_is c.args.point))
