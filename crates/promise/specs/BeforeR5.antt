-- What R-5 says of lists of calls: "Where both records are always the same bytes, the answers equal the earlier ones". Definitions only.
use Rattle.std.specs.Prelude.{ℕ, Bool, List}
use Rattle.chain.specs.BeforeR5.{earlier_chain, before}
use Rattle.bus.specs.BeforeR5.{SameRecords}
use Rattle.board.specs.declared.Analog.{Analog}
use Rattle.board.specs.Board.{fresh_of}
use Rattle.board.specs.Before.{fresh_on, stepped_on, earlier_board}
use Rattle.promise.specs.Calls.{Given, Call}
use Rattle.promise.specs.Promise.{EachAccepted}
use Rattle.promise.specs.Before.{Unchanged}

-- every list in each of whose accepted steps both amp records of each voice are the same bytes
abbrev pub SameRecordsSameAnswers : ℕ → Bool → Type 0
SameRecordsSameAnswers seed ideal =
    (calls : List Call) → EachAccepted (λ (b : Analog) (g : Given). SameRecords g.frame) (fresh_of seed ideal) calls
    → Unchanged (earlier_board earlier_chain) (stepped_on before) (fresh_of seed ideal) (fresh_on before seed ideal) calls
