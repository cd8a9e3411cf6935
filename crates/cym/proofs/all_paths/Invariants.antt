use mathlib.Core.Path.{◌≡◌}
use Rattle.lists.specs.Turns.{turns_of}
use Rattle.cym.specs.Cym.{path_of}
use Rattle.cym.proofs.all_paths.Given as goal

abbrev pub invariant-loop-p : goal.invariant-loop-p
invariant-loop-p l = l.s ≡ turns_of l.p (path_of l.m l.env) l.initial.s
