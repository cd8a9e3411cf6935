use lib.Ieee.{of_bits, neg, ne, eq}
use Rattle.std.proofs.Common.{true, false}
use borrow.Author.Tests.{not-true, not-false}
use Rattle.float.proofs.Signs.{abs_none, signum_below, signum_above, signum_nan, signum_zero, zero+}
use Rattle.float.proofs.signum.Goals as goal

pub returns-then-x : goal.returns-then-x
unfolding of_bits neg ne
returns-then-x c = signum_below c.args.x c.if-x.true

pub returns-then-x-2 : goal.returns-then-x-2
unfolding of_bits neg ne
returns-then-x-2 c = signum_above c.args.x c.if-x-2.true

pub returns-then-x-3 : goal.returns-then-x-3
unfolding of_bits neg ne
returns-then-x-3 c = let x = c.args.x in signum_nan x (abs_none x c.if-x.false c.if-x-2.false (not-true (eq x zero+) c.if-x-3.true))

pub returns-then-x-4 : goal.returns-then-x-4
unfolding of_bits neg ne
returns-then-x-4 c = let x = c.args.x in signum_zero x true (not-false (eq x zero+) c.if-x-3.false) c.if-x-4.true

pub returns-else-x-4 : goal.returns-else-x-4
unfolding of_bits neg ne
returns-else-x-4 c = let x = c.args.x in signum_zero x false (not-false (eq x zero+) c.if-x-3.false) c.if-x-4.false
