-- `comp::vol_row` meets its contract: the negative entries are the negated ones as the program has them. Assumes nothing.
use Rattle.comp.specs.Tables.{vol_row, vol_rows}
use Rattle.comp.proofs.vol_row.Goals as goal

pub returns : goal.returns
unfolding vol_row vol_rows lib.Ieee.of_bits lib.Ieee.neg
returns c = rw (← c.min.ensures)
