-- `cym::hit` meets its contract: the loop ends after eight turns. Assumes nothing.
use mathlib.Core.Path.{◌≡◌}
use native.Mathlib.Omega.{arith}
use Rattle.cym.specs.Cym.{any_hit}
use Rattle.cym.proofs.hit.Goals as goal

pub returns : goal.returns
unfolding any_hit
returns c = let e : c.loop-r.r ≡ 8 = omega arith in rw e at c.loop-r.invariant
