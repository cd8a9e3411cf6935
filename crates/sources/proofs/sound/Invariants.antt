-- In each loop the state is that after as many turns. Assumes nothing.
use mathlib.Core.Path.{◌≡◌}
use Rattle.lists.specs.Turns.{turns_of}
use Rattle.sources.specs.Sources.{sources, dual_turn, tom_turn}
use Rattle.sources.proofs.sound.Given as goal

abbrev pub invariant-loop-d : goal.invariant-loop-d
invariant-loop-d l = sources l.duals l.hat l.toms l.cym l.w l.src ≡ turns_of l.d (dual_turn l.f) (sources l.initial.duals l.initial.hat l.initial.toms l.initial.cym l.initial.w l.initial.src)

abbrev pub invariant-loop-t : goal.invariant-loop-t
invariant-loop-t l = sources l.duals l.hat l.toms l.cym l.w l.src ≡ turns_of l.t (tom_turn l.f l.dac) (sources l.initial.duals l.initial.hat l.initial.toms l.initial.cym l.initial.w l.initial.src)
