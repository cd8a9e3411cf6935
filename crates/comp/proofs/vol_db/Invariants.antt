use mathlib.Core.Path.{◌≡◌}
use Rattle.lists.specs.Turns.{turns_of}
use Rattle.comp.specs.Comp.{vol_turn}
use Rattle.comp.proofs.vol_db.Given as goal

abbrev pub invariant-loop-i : goal.invariant-loop-i
invariant-loop-i l = l.out ≡ turns_of l.i (vol_turn l.vol) l.initial.out
