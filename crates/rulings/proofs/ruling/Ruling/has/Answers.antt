-- The shift and the masks of the code are the digit of the specification.
use Rattle.std.proofs.Common.{ℕ, ◌/◌, ◌%◌, ◌^◌, eqb, sym, ap, ◌∙◌}
use lib.Bits.{bit_and, and_mask}
use Rattle.std.proofs.lemmas.Bool.{le-ltb}
use Rattle.rulings.specs.Rulings.{byte, has}
use Rattle.rulings.proofs.Bytes.{has_past}
use Rattle.rulings.proofs.ruling.Ruling.has.Goals as goal

pub returns-then-point-lt128 : goal.returns-then-point-lt128
unfolding has
returns-then-point-lt128 c =
    let b : ℕ = byte c.args.self (c.args.point / 8) in
    ap (λ (k : ℕ). eqb (bit_and (b / 2 ^ k) 1) 1) (and_mask c.args.point 3)
    ∙ ap (λ (n : ℕ). eqb n 1) (and_mask (b / 2 ^ (c.args.point % 8)) 1)

pub returns-else-point-lt128 : goal.returns-else-point-lt128
returns-else-point-lt128 c =
    le-ltb c.args.point 128 c.if-point-lt128.false ∙ sym (has_past c.args.self c.args.point c.if-point-lt128.false)
