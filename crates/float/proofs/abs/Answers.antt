-- `float::abs` meets its contract: each answer by the test that led to it. Assumes nothing.
use lib.Ieee.{of_bits}
use Rattle.std.proofs.Common.{T, sym, subst}
use Rattle.float.proofs.Signs.{abs_above, abs_from}
use Rattle.float.proofs.abs.Goals as goal

pub returns-then-n-x : goal.returns-then-n-x
unfolding of_bits
returns-then-n-x c = abs_above c.args.x (subst T (sym c.well_formed.0.1) tt) c.if-n-x.true

pub returns-else-n-x : goal.returns-else-n-x
unfolding of_bits
returns-else-n-x c = abs_from c.args.x (subst T (sym c.well_formed.0.1) tt) c.if-n-x.false
