use mathlib.Core.Path.{◌≡◌}
use lib.ListN.{get_or, set}
use Rattle.lists.specs.Turns.{turns_of}
use Rattle.cym.specs.Cym.{no_env, env_at}
use Rattle.cym.proofs.envs.Given as goal

abbrev pub invariant-loop-r : goal.invariant-loop-r
invariant-loop-r l = l.env ≡ turns_of l.r (λ i x. set x i (env_at l.f l.mode i (get_or x i no_env))) l.initial.env
