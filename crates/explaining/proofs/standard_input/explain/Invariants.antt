-- Each line takes a byte at least.
use Rattle.std.proofs.Common.{◌-◌, ◌≡◌, length}
use Rattle.explaining.proofs.standard_input.explain.Given as goal

abbrev pub invariant-lines : goal.invariant-lines
invariant-lines g l = l.explainer.input.now ≡ l.initial.explainer.input.now

abbrev pub decreases-lines : goal.decreases-lines
decreases-lines g l = length l.explainer.input.now - l.explainer.place
