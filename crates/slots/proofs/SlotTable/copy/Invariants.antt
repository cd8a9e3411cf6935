-- The words so far stand at their places, negated. Assumes nothing.
use mathlib.Core.Path.{◌≡◌}
use lib.ListN.{get_or}
use lib.IntN.{pos, neg_ℤ}
use Rattle.lists.specs.Turns.{each_of}
use Rattle.slots.specs.Slots.{raw_of}
use Rattle.slots.proofs.SlotTable.copy.Given as goal

abbrev pub invariant-loop-i : goal.invariant-loop-i
invariant-loop-i l = l.copy ≡ each_of l.i (λ i x. neg_ℤ (get_or l.rx (get_or (raw_of l.slots) i 0) (pos 0))) (pos 0) l.initial.copy
