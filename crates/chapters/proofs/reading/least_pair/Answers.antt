-- The two closures one after the other are a step up, and the smallest set that they lead to is what is sure; the step from it, where one was taken, found what is possible.
use Rattle.std.proofs.Common.{arith, rules}
use Rattle.rulings.specs.Rulings.{has}
use Rattle.semantics.specs.Closure.{IsClosure}
use Rattle.semantics.proofs.Alternating.{two_closures, two_closures_mono, two_closures_inside}
use Rattle.chapters.proofs.Pairs.{twice, least_pair}
use Rattle.chapters.proofs.reading.least_pair.Goals as goal
use Rattle.chapters.proofs.reading.least_pair.Goals.{in-Some, in-None}

pub returns : goal.returns
returns g c =
    let m = g.M.Operator.meant c.args.for_sure.now in
    let w = g.W.Operator.meant c.args.for_possible.now in
    let l = g.met.M.Operator.lawful c.args.for_sure.now in
    let v = g.met.W.Operator.lawful c.args.for_possible.now in
    let possible : IsClosure w (has c.climb-top.result.ruling) (has c.match-top.possible) = elim c.match-top.branch [ in-Some s ↦ search rules | in-None n ↦ rw n.possible-is n.closure-possible.ensures ] in
    least_pair m w l v (has c.climb-top.result.ruling) (has c.match-top.possible)
    (c.climb-top.ensures.top (two_closures m w) (record {
      taken = λ x s h. twice m w l v (has x) (has s.found) (has s.next) (search rules) (search rules);
      monotone = two_closures_mono m w l v;
      inside = λ x a h. omega (arith, two_closures_inside m w l v x a h);
    }))
    possible
