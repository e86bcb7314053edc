-- The joint stays text.
use denote.Text.{Utf8}
use denote.Shadow.{shadow}
use Rattle.explaining.proofs.say.conditions.Given as goal

abbrev pub invariant-loop-point : goal.invariant-loop-point
invariant-loop-point g l = shadow (Utf8 l.joint)
