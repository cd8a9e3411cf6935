-- `float_c::rytm_from_i32` meets its contract, by that of the call. Assumes nothing.
use mathlib.Core.Path.{ap, ◌∙◌}
use lib.Ieee.{binary32, of_int}
use mir.Syntax.{w32}
use mir.ValLaws.{to_z-of_z}
use Rattle.float_c.proofs.rytm_from_i32.Goals as goal

pub returns : goal.returns
returns c = c.from_i32.ensures ∙ ap (of_int binary32) (to_z-of_z w32 c.args.n c.ranges.n)
