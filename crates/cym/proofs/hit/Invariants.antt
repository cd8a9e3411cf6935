use mathlib.Core.Path.{◌≡◌}
use mathlib.Core.Bool.{◌||◌}
use Rattle.lists.specs.Turns.{turns_of}
use Rattle.cym.specs.Cym.{hit_at}
use Rattle.cym.proofs.hit.Given as goal

abbrev pub invariant-loop-r : goal.invariant-loop-r
invariant-loop-r l = l.any ≡ turns_of l.r (λ i x. x || hit_at l.now l.was i) l.initial.any
