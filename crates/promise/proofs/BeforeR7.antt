-- R-7 beside what was before it, of every list of calls from a fresh board. Assumes nothing.
use Prim.Native.Nat.{ℕ, ◌<◌, ◌^◌}
use mathlib.Core.Bool.{Bool}
use Rattle.board.specs.declared.Analog.{Analog}
use Rattle.board.specs.Board.{fresh_of}
use Rattle.board.specs.BeforeR7.{stepped_before, NonePlain}
use Rattle.board.proofs.BeforeR7.{accepted_words, stepped_as_before}
use Rattle.promise.specs.Calls.{Given}
use Rattle.promise.specs.BeforeR7.{NonePlainSameAnswers}
use Rattle.promise.proofs.Before.{StepAsThen, unchanged}
use Rattle.promise.proofs.Kept.{Good, stepped_good}
use Rattle.promise.proofs.Start.{fresh_good}

-- no oscillator 1 sounds without FM or ring
abbrev Silent : Analog → Given → Type 0
Silent b g = NonePlain g.frame b

step_as_then : StepAsThen (λ (b : Analog). b) stepped_before Good Silent
step_as_then = record {
  same = λ b g t i q. stepped_as_before b g.frame g.bytes g.dac g.fx g.inputs i.sources (accepted_words g.frame g.dac g.fx g.inputs t) q;
  kept = λ b g i q. stepped_good b g.frame g.dac g.fx g.inputs i g.bytes;
}

pub none_plain_same_answers : (seed : ℕ) (ideal : Bool) → seed < 2 ^ 32 → NonePlainSameAnswers seed ideal
none_plain_same_answers seed ideal fits calls h = unchanged (λ (b : Analog). b) stepped_before Good Silent step_as_then (fresh_of seed ideal) (fresh_good seed ideal fits) calls h
