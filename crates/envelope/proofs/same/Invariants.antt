use mathlib.Core.Path.{◌≡◌}
use Rattle.envelope.specs.Moves.{alike}
use Rattle.envelope.proofs.same.Given as goal

abbrev pub invariant-loop-i : goal.invariant-loop-i
invariant-loop-i l = l.ok ≡ alike l.i l.a l.b
