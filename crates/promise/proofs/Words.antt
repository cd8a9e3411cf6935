-- Every receive word that a call answers or writes is within ±8,388,607. Assumes nothing.
use mathlib.Core.List.{List}
use lib.Dec.{lit≤}
use lib.IntN.{ℤ}
use Rattle.std.specs.Prelude.{Option, Some, None}
use Rattle.bus.specs.Bus.{InWordRange}
use Rattle.board.specs.declared.Analog.{Analog}
use Rattle.board.specs.declared.refusals.Refusal.{Refusal}
use Rattle.board.proofs.Range.{answer_words}
use Rattle.slots.specs.Slots.{copy_of}
use Rattle.slots.proofs.Copy.{copy_words}
use Rattle.promise.specs.Calls.{answer, Call, step, receive, outcome_of, words_of, written_of}

written : (o : Option Refusal) (words : List ℤ) → InWordRange words → InWordRange (written_of o words)
unfolding written_of
written None words h k = h k
written (Some o) words h k = lit≤ tt

pub words_in : (b : Analog) (k : Call) → InWordRange (words_of b k)
words_in b (step g) = answer_words b g.frame g.dac g.fx g.inputs
words_in b (receive g slots dest) =
    written (outcome_of (receive g slots dest)) (copy_of slots (answer b g).rx)
    (copy_words slots (answer b g).rx (answer_words b g.frame g.dac g.fx g.inputs))
