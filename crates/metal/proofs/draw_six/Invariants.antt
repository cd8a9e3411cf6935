use mathlib.Core.Path.{◌≡◌}
use Rattle.lists.specs.Turns.{turns_of}
use Rattle.metal.specs.Metal.{draw}
use Rattle.metal.proofs.draw_six.Given as goal

abbrev pub invariant-loop-k : goal.invariant-loop-k
invariant-loop-k g l = (h : _) → ((w : _) (r : _) → goal.F-post g l.one w r → r ≡ h w) → l.s ≡ turns_of l.k (draw h) l.initial.s
