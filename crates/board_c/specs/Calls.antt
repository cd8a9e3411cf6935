-- What a call from C is to the board. Definitions only.
use Rattle.std.specs.Prelude.{ℕ, ◌≡◌, List, ℤ}
use Rattle.board.specs.Board.{number_of, answer_of}
use Rattle.board.specs.declared.Answer as Board
use Rattle.board.specs.declared.Analog.{Analog}
use Rattle.board.specs.declared.Inputs.{Inputs}
use Rattle.receive.specs.Receive.{received_of, Receives}
use Rattle.receive.specs.declared.Received as Receive
use Rattle.promise.specs.Calls.{StepAnswer, ReceiveAnswer}
use Rattle.board_c.specs.declared.Answer.{Answer}
use Rattle.board_c.specs.declared.Received.{Received}

-- an answer with its refusal as the table's number
unfoldable pub numbered : Board.Answer → Answer
numbered a = record { number = number_of a.refusal; rx = a.rx; mix = a.mix; board = a.board }

-- a step's answer, numbered, and the call that it is in a list of calls
pub record Step (b : Analog) (f : List ℕ) (dac : List ℤ) (fx : List ℕ) (x : Inputs) (r : Answer) : Type 0 where
  pub is : r ≡ numbered (answer_of b f dac fx x)
  pub call : StepAnswer b f dac fx x (answer_of b f dac fx x)

-- the same of a step whose words are copied
unfoldable pub numbered_received : Receive.Received → Received
numbered_received a = record { number = number_of a.refusal; mix = a.mix; board = a.board }

pub record ReceiveStep (b : Analog) (f : List ℕ) (dac : List ℤ) (fx : List ℕ) (x : Inputs) (slots : List ℕ) (dest : List ℤ) (r : Received) (after : List ℤ) : Type 0 where
  pub is : r ≡ numbered_received (received_of b f dac fx x slots dest)
  pub receives : Receives b f dac fx x slots dest (received_of b f dac fx x slots dest) after
  pub call : ReceiveAnswer b f dac fx x slots dest (received_of b f dac fx x slots dest) after
