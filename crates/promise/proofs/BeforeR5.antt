-- R-5 beside what was before it, of every list of calls from a fresh board. Assumes nothing.
use Prim.Native.Nat.{ℕ}
use mathlib.Core.Path.{refl, sym, subst}
use mathlib.Core.Bool.{Bool}
use Rattle.chain.specs.Chain.{chain_new}
use Rattle.chain.specs.BeforeR5.{ChainBefore, chain_new_before, earlier_chain, before}
use Rattle.bus.specs.BeforeR5.{SameRecords}
use Rattle.bus.proofs.Before.{Each}
use Rattle.bus.proofs.BeforeR5.{AmpsAlike, same_records}
use Rattle.board.specs.declared.Analog.{Analog}
use Rattle.board.specs.Board.{fresh_of}
use Rattle.board.specs.Before.{BoardOn, stepped_on, earlier_board}
use Rattle.board.proofs.Before.{fresh_same, fresh_each, stepped_same, stepped_kept}
use Rattle.promise.specs.Calls.{Given}
use Rattle.promise.specs.Before.{Unchanged}
use Rattle.promise.specs.BeforeR5.{SameRecordsSameAnswers}
use Rattle.promise.proofs.Before.{StepAsThen, unchanged}

-- each chain's amps stand alike, and both records of each voice are the same
abbrev Alike : Analog → Type 0
Alike b = Each AmpsAlike b.chains

abbrev Same : Analog → Given → Type 0
Same b g = SameRecords g.frame

step_as_then : StepAsThen (earlier_board earlier_chain) (stepped_on before) Alike Same
step_as_then = record {
  same = λ b g t a r. stepped_same before AmpsAlike b g.frame g.dac g.fx g.inputs (same_records g.frame r) a;
  kept = λ b g a r. stepped_kept before AmpsAlike b g.frame g.dac g.fx g.inputs (same_records g.frame r) a;
}

pub same_records_same_answers : (seed : ℕ) (ideal : Bool) → SameRecordsSameAnswers seed ideal
unfolding chain_new chain_new_before
same_records_same_answers seed ideal calls h =
    subst (λ (y : BoardOn ChainBefore). Unchanged (earlier_board earlier_chain) (stepped_on before) (fresh_of seed ideal) y calls) (sym (fresh_same before refl seed ideal))
    (unchanged (earlier_board earlier_chain) (stepped_on before) Alike Same step_as_then (fresh_of seed ideal) (fresh_each AmpsAlike refl seed ideal) calls h)
