-- Each line takes a byte at least.
use Rattle.std.proofs.Common.{◌-◌, length}
use Rattle.explain_protests.proofs.explain.Given as goal

abbrev pub decreases-lines : goal.decreases-lines
decreases-lines g l = length l.explainer.input.now - l.explainer.place
