-- Calls, and lists of them from board to board. Definitions only.
use Rattle.std.specs.Prelude.{ℕ, ◌^◌, ◌<◌, ◌≡◌, Bool, cond, List, [], ◌∷◌, length, ℤ, Option, Some, None}
use Rattle.frame.specs.Frame.{Bytes}
use Rattle.board.specs.declared.Analog.{Analog}
use Rattle.board.specs.declared.Answer.{Answer}
use Rattle.board.specs.declared.Inputs.{Inputs}
use Rattle.board.specs.declared.refusals.Refusal.{Refusal}
use Rattle.board.specs.Board.{fresh_of, number_of, accepted, refusal_of, stepped_of, answer_of}
use Rattle.slots.specs.Slots.{copy_of}
use Rattle.receive.specs.Receive.{receive_refusal_of}
use Rattle.receive.specs.declared.Received.{Received}

-- what a step is given beside the board: a frame of bytes, DAC words, FX parameters, four inputs
pub record Given : Type 0 where
  pub frame : List ℕ
  pub bytes : Bytes frame
  pub dac : List ℤ
  pub fx : List ℕ
  pub inputs : Inputs

-- what a step with it answers
abbrev pub answer : Analog → Given → Answer
answer b g = answer_of b g.frame g.dac g.fx g.inputs

-- "A call added later that takes one board and returns its next one may stand anywhere in the same list"
pub data Call : Type 0 where
  step : Given → Call
  -- one that copies the step's words by a slot table into a destination
  receive : Given → (slots : List ℕ) → (dest : List ℤ) → Call

-- what a call with a destination has written of these words
unfoldable pub written_of : Option Refusal → List ℤ → List ℤ
written_of None words = words
written_of (Some o) words = []

-- ---- what differs from call to call
-- what it makes the step with, if it is accepted
abbrev pub given_of : Call → Given
given_of (step g) = g
given_of (receive g slots dest) = g

-- its refusal or none, whatever the board
abbrev pub outcome_of : Call → Option Refusal
outcome_of (step g) = refusal_of g.frame g.dac g.fx g.inputs
outcome_of (receive g slots dest) = receive_refusal_of g.frame g.dac g.fx g.inputs slots (length dest)

-- the words that it answers; of a copy those that it writes into its destination, and none where it is refused
abbrev pub words_of : Analog → Call → List ℤ
words_of b (step g) = (answer b g).rx
words_of b (receive g slots dest) = written_of (outcome_of (receive g slots dest)) (copy_of slots (answer b g).rx)

-- ---- what is the same for every call
abbrev pub taken : Call → Bool
taken k = accepted (outcome_of k)

-- it makes the step with what it was given, or leaves the board
unfoldable pub next_of : Analog → Call → Analog
next_of b k = let g = given_of k in cond (taken k) (stepped_of b g.frame g.dac g.fx g.inputs).board b

-- an answer with this refusal or none, these words and this board is call k's
pub record AnswerOf (b : Analog) (k : Call) (o : Option Refusal) (rx : List ℤ) (next : Analog) : Type 0 where
  pub number : number_of o ≡ number_of (outcome_of k)
  pub words : rx ≡ words_of b k
  pub board : next ≡ next_of b k

-- a step's answer to any arguments is that of a call: what a caller lends as a frame is a list of bytes
pub record StepAnswer (b : Analog) (f : List ℕ) (dac : List ℤ) (fx : List ℕ) (x : Inputs) (a : Answer) : Type 0 where
  pub bytes : Bytes f
  pub call : AnswerOf b (step (record { frame = f; bytes = bytes; dac = dac; fx = fx; inputs = x })) a.refusal a.rx a.board

-- and so is the answer of a step whose words are copied into a destination that has the words `after` then
pub record ReceiveAnswer (b : Analog) (f : List ℕ) (dac : List ℤ) (fx : List ℕ) (x : Inputs) (slots : List ℕ) (dest : List ℤ) (r : Received) (after : List ℤ) : Type 0 where
  pub bytes : Bytes f
  pub call : AnswerOf b (receive (record { frame = f; bytes = bytes; dac = dac; fx = fx; inputs = x }) slots dest) r.refusal (written_of r.refusal after) r.board

-- ---- lists
-- "each step takes the board that the one before it returned"
unfoldable pub reached_of : Analog → List Call → Analog
reached_of b [] = b
reached_of b (k ∷ ks) = reached_of (next_of b k) ks

-- a board that some list of calls reaches from a fresh one
pub record Reached (b : Analog) : Type 0 where
  pub seed : ℕ
  pub seed_fits : seed < 2 ^ 32
  pub ideal : Bool
  pub calls : List Call
  pub is : b ≡ reached_of (fresh_of seed ideal) calls

-- what steps answer, in their order
unfoldable pub answers_of : Analog → List Given → List Answer
answers_of b [] = []
answers_of b (g ∷ gs) = answer b g ∷ answers_of (answer b g).board gs
