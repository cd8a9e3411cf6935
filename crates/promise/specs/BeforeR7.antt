-- What R-7 says of lists of calls: "with either on nothing changes". Definitions only.
use Rattle.std.specs.Prelude.{ℕ, Bool, List}
use Rattle.board.specs.declared.Analog.{Analog}
use Rattle.board.specs.Board.{fresh_of}
use Rattle.board.specs.BeforeR7.{stepped_before, NonePlain}
use Rattle.promise.specs.Calls.{Given, Call}
use Rattle.promise.specs.Promise.{EachAccepted}
use Rattle.promise.specs.Before.{Unchanged}

-- every list in none of whose accepted steps an oscillator 1 sounds without FM or ring
abbrev pub NonePlainSameAnswers : ℕ → Bool → Type 0
NonePlainSameAnswers seed ideal =
    (calls : List Call) → EachAccepted (λ (b : Analog) (g : Given). NonePlain g.frame b) (fresh_of seed ideal) calls
    → Unchanged (λ (b : Analog). b) stepped_before (fresh_of seed ideal) (fresh_of seed ideal) calls
