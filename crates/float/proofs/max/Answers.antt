-- `float::max` meets its contract: each answer by the test that led to it. Assumes nothing.
use Rattle.float.proofs.Order.{max_kept, max_alone, max_other}
use Rattle.float.proofs.max.Goals as goal

pub returns-then-b-a : goal.returns-then-b-a
returns-then-b-a c = max_kept c.args.a c.args.b c.if-b-a.true

pub returns-then-b : goal.returns-then-b
returns-then-b c = max_alone c.args.a c.args.b c.if-b.true

pub returns-else-b : goal.returns-else-b
returns-else-b c = max_other c.args.a c.args.b c.if-b-a.false c.if-b.false
