-- `float::min` meets its contract: each answer by the test that led to it. Assumes nothing.
use Rattle.float.proofs.Order.{min_kept, min_alone, min_other}
use Rattle.float.proofs.min.Goals as goal

pub returns-then-a-b : goal.returns-then-a-b
returns-then-a-b c = min_kept c.args.a c.args.b c.if-a-b.true

pub returns-then-b : goal.returns-then-b
returns-then-b c = min_alone c.args.a c.args.b c.if-b.true

pub returns-else-b : goal.returns-else-b
returns-else-b c = min_other c.args.a c.args.b c.if-a-b.false c.if-b.false
