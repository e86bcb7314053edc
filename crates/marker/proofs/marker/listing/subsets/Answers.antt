-- A shift of 1 by at most 12 places loses nothing.
use Rattle.std.proofs.Common.{◌≡◌, ◌*◌, ◌%◌, ◌^◌, ◌<◌, ◌≤◌, ◌∙◌, mod-eq_of_lt, one-mul, arith, pow_mono}
use Rattle.marker.proofs.marker.listing.subsets.Goals as goal

pub returns : goal.returns
returns c =
    let p : 2 ^ c.args.width ≤ 2 ^ 12 = pow_mono c.requires in
    let m = one-mul (2 ^ c.args.width) in
    let q : 1 * 2 ^ c.args.width < 65536 = omega arith in
    let e : (1 * 2 ^ c.args.width) % 65536 ≡ 2 ^ c.args.width = mod-eq_of_lt q ∙ m in
    (e, omega arith)
