-- What derives is a step up, and the smallest set that it leads to is the closure.
use Rattle.std.proofs.Common.{arith, rules}
use mathlib.Core.Path.{fun_ext}
use Rattle.rulings.specs.Rulings.{has}
use Rattle.semantics.proofs.Closures.{step, step_mono, step_inside}
use Rattle.chapters.proofs.closures.closure.Goals as goal

pub returns : goal.returns
returns g c =
    let m = g.O.Operator.meant c.args.operator.now in
    let l = g.met.O.Operator.lawful c.args.operator.now in
    let y = has c.args.y in
    let least = c.climb.ensures.top (step m y) (record {
      taken = λ x s h. fun_ext (λ a. search rules);
      monotone = step_mono m l y;
      inside = λ x a h. omega (arith, step_inside m l y x a h);
    }) in
    record { closed = least.closed; least = least.least }
