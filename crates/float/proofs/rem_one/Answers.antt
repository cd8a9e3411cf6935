-- `float::rem_one` meets its contract: below 0 with the sign turned, twice. Assumes nothing.
use Rattle.std.proofs.Common.{ap, ◌∙◌}
use lib.Ieee.{neg}
use Rattle.float.proofs.Remainder.{not_below, rem_turned}
use Rattle.float.proofs.rem_one.Goals as goal

pub part-requires : goal.part-requires
unfolding lib.Ieee.of_bits
part-requires c = not_below c.args.x c.if-x.true

pub returns-then-x : goal.returns-then-x
unfolding lib.Ieee.of_bits
returns-then-x c = ap neg c.part.ensures ∙ rem_turned c.args.x c.if-x.true
