-- The words so far are in range. Assumes nothing.
use mathlib.Core.Path.{◌≡◌}
use lib.ListN.{take}
use Rattle.std.specs.List.{list_all}
use Rattle.board.specs.Board.{in_range}
use Rattle.board.proofs.all_in_range.Given as goal

abbrev pub invariant-loop-x : goal.invariant-loop-x
invariant-loop-x l = l.ok ≡ list_all in_range (take l.x-index l.dac)
