-- A step whose receive words are copied by a slot table into a lent destination. Definitions only.
use Rattle.std.specs.Prelude.{ℕ, ◌≡◌, cond, List, length, eqb, ℤ, Option, Some, None, IfSome, IfNone}
use Rattle.float.specs.Consts.{k0}
use Rattle.board.specs.Board.{accepted, refusal_of, answer_of}
use Rattle.board.specs.declared.Analog.{Analog}
use Rattle.board.specs.declared.Answer.{Answer}
use Rattle.board.specs.declared.Inputs.{Inputs}
use Rattle.board.specs.declared.refusals.Refusal.{Refusal}
use Rattle.board.specs.declared.refusals.Refusal.TheVariants.{SlotTable, DestinationCount}
use Rattle.slots.specs.Slots.{right_table, copy_of}
use Rattle.slots.specs.Copied.{Copied}
use Rattle.receive.specs.declared.Received.{Received}

-- "After 1 to 5, a slot table that isn't eight bytes naming each of 0 to 7 once is refused by 9, and after it a destination that isn't twelve words by 10"
unfoldable pub receive_refusal_of : List ℕ → List ℤ → List ℕ → Inputs → List ℕ → ℕ → Option Refusal
receive_refusal_of f dac fx x slots room =
    let o = refusal_of f dac fx x in
    cond (accepted o) (cond (right_table slots) (cond (eqb room 12) None (Some DestinationCount)) (Some SlotTable)) o

-- a refusal: mix 0 and 0, and "the board is the one given"
unfoldable pub refused_of : Analog → Refusal → Received
refused_of b o = record { refusal = Some o; mix = record { l = k0; r = k0 }; board = b }

-- "makes the step itself and answers its mix and next board"
unfoldable pub received_if : Option Refusal → Analog → Answer → Received
received_if None b a = record { refusal = None; mix = a.mix; board = a.board }
received_if (Some o) b a = refused_of b o

-- the destination after it: the step's words copied, or "On a refusal the destination keeps its words"
unfoldable pub written_if : Option Refusal → List ℕ → Answer → List ℤ → List ℤ
written_if None slots a dest = copy_of slots a.rx
written_if (Some o) slots a dest = dest

-- what it answers to any arguments, and what it leaves in the destination
unfoldable pub received_of : Analog → List ℕ → List ℤ → List ℕ → Inputs → List ℕ → List ℤ → Received
received_of b f dac fx x slots dest = received_if (receive_refusal_of f dac fx x slots (length dest)) b (answer_of b f dac fx x)

unfoldable pub destination_of : Analog → List ℕ → List ℤ → List ℕ → Inputs → List ℕ → List ℤ → List ℤ
destination_of b f dac fx x slots dest = written_if (receive_refusal_of f dac fx x slots (length dest)) slots (answer_of b f dac fx x) dest

-- a refusal leaves destination and board, and its mix is 0 and 0
pub record Untouched (b : Analog) (dest : List ℤ) (r : Received) (after : List ℤ) : Type 0 where
  pub words : after ≡ dest
  pub mix : r.mix ≡ record { l = k0; r = k0 }
  pub board : r.board ≡ b

-- a call with these arguments that answers r and leaves these words in the destination
pub record Receives (b : Analog) (f : List ℕ) (dac : List ℤ) (fx : List ℕ) (x : Inputs) (slots : List ℕ) (dest : List ℤ) (r : Received) (after : List ℤ) : Type 0 where
  pub is : r ≡ received_of b f dac fx x slots dest
  pub written : after ≡ destination_of b f dac fx x slots dest
  -- accepted: the words are those of the step's own answer, copied
  pub copied : IfNone r.refusal (Copied slots (answer_of b f dac fx x).rx after)
  -- refused
  pub untouched : IfSome r.refusal (λ o. Untouched b dest r after)
