-- `metal::draw_six` meets its contract: the loop ends after six turns. Assumes nothing.
use mathlib.Core.Path.{◌≡◌}
use native.Mathlib.Omega.{arith}
use Rattle.metal.proofs.draw_six.Goals as goal

pub returns : goal.returns
returns g c = λ h r. let e : c.loop-k.k ≡ 6 = omega arith in rw e at (c.loop-k.invariant h r)
